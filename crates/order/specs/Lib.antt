-- In reading order: what is said of a list of openings, of a list of any calls, of old frames, counters, nonces and refusals; the cases. What is
-- proved of them stands in proofs/, in reading order there.
pub mod Frames
pub mod Nwk
pub mod Aps
pub mod NwkMachine
pub mod NwkActive
pub mod ApsOrder
pub mod NwkSteps
pub mod ApsSteps
pub mod NwkSent
pub mod ApsSent
pub mod ApsRows
pub mod Stale
pub mod Moves
pub mod Nonces
pub mod Kept
pub mod Refusals
pub mod Cases
