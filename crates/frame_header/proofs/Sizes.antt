-- What the check takes of the laws of the NWK header. Assumes nothing.
use Rattle.frame_header.specs.NwkLaws.{control-octets, fixed-least, fixed-most, relays-most}

pub ruleset sizes = (fixed-least, fixed-most, relays-most)

pub ruleset octets = (control-octets)
