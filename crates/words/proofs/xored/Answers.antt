-- `words::xored` meets its contract. Assumes nothing.
use Rattle.words.proofs.WordLaws.{xor_bytes}
use Rattle.words.proofs.xored.Goals as goal

pub returns : goal.returns
returns c =
    xor_bytes c.args.a c.args.b c.ranges.a.fits c.ranges.b.fits
