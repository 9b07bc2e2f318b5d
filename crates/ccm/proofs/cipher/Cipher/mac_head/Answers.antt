-- `Cipher::mac_head` meets its contract. With no associated data, and with some.
-- Assumes nothing.
use mathlib.Core.Path.{◌≡◌, sym, ap}
use Prim.Native.Nat.{◌+◌, ◌-◌, ◌*◌, ◌/◌, min}
use native.Mathlib.Omega.{arith}
use lib.ListN.{length}
use Rattle.words.specs.Words.{block_of}
use Rattle.aes.specs.Words.{cipher_words}
use Rattle.ccm.specs.Ccm.{block}
use Rattle.laws.specs.Parts.{part-rest, drop-least}
use Rattle.ccm.proofs.Laws.{head-nil, head-some}
use borrow.Author.Rules.{rules}
use Rattle.ccm.proofs.cipher.Cipher.mac_head.Goals as goal

pub returns-then-is_empty : goal.returns-then-is_empty
returns-then-is_empty c =
    let a = c.args in
    cc (head-nil (cipher_words a.self.now.keys.now) a.self.now.tag_length a.self.now.nonce a.a.now a.l (search rules))

pub returns : goal.returns
returns c =
    let a = c.args in
    let x = c.encipher_state-x.result in
    let E = cipher_words a.self.now.keys.now in
    let e : block_of x ≡ E (block (64 + ((a.self.now.tag_length - 2) / 2 * 8 + 1)) a.self.now.nonce a.l) = cc in
    let m : min (length a.a.now) 14 ≡ min 14 (length a.a.now) = omega arith in
    cc (m, part-rest c.min-k.result a.a.now, drop-least 14 a.a.now, head-some E a.self.now.tag_length a.self.now.nonce a.a.now a.l (search rules) (ap length (sym e)))
