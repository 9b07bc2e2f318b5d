-- `Cipher::count_through` meets its contract. The invariant: what is done, followed by what is left under the stream from there on,
-- is the whole under the stream. Assumes nothing.
use Rattle.std.proofs.Common.{◌≡◌, ◌++◌, ◌+◌, ◌*◌, take, drop}
use Rattle.aes.specs.Words.{cipher_words}
use Rattle.ccm.specs.Ccm.{counted}
use Rattle.ccm.proofs.cipher.Cipher.count_through.Given as goal

abbrev pub invariant-loop-i : goal.invariant-loop-i
invariant-loop-i l =
    let C = counted (cipher_words l.self.keys.now) l.self.nonce in
    take (16 * l.i) l.s ++ C (l.i + 1) (drop (16 * l.i) l.s) ≡ C 1 l.initial.s
