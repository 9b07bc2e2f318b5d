-- `Cipher::open_part` meets its contract. The payload is deciphered aside, and only a right tag has it written. Assumes nothing.
use mathlib.Core.Path.{sym, ◌∙◌}
use Prim.Native.Nat.{◌≤◌}
use native.Mathlib.Omega.{arith}
use lib.ListN.{length}
use Rattle.words.specs.Words.{block_of}
use Rattle.aes.specs.Words.{cipher_words}
use Rattle.ccm.proofs.FrameLaws.{aside, vouched-aside}
use borrow.Author.Rules.{rules}
use Rattle.ccm.proofs.cipher.Cipher.open_part.Goals as goal

pub returns-then-ok-clause-value : goal.returns-then-ok-clause-value
returns-then-ok-clause-value c =
    let a = c.args in
    let s = a.s.now in
    let E = cipher_words a.self.now.keys.now in
    let h : a.n ≤ length s = omega (arith, c.requires.room) in
    let k = c.copy in
    let q = c.count_through in
    let p = aside E a.self.now.nonce s _ k.new.dst q.new.s a.n h k.ensures q.auto.s q.ensures in
    let v = vouched-aside E a.self.now.tag_length a.self.now.nonce (block_of a.x) a.n s _ _ _ _ p c.mac_part-y.ensures c.tag_of-t.ensures c.same-ok.ensures in
    sym c.if-ok.true ∙ v

pub returns-clause-value : goal.returns-clause-value
returns-clause-value c =
    let a = c.args in
    let s = a.s.now in
    let E = cipher_words a.self.now.keys.now in
    let h : a.n ≤ length s = search rules in
    let k = c.copy in
    let q = c.count_through in
    let p = aside E a.self.now.nonce s _ k.new.dst q.new.s a.n h k.ensures q.auto.s q.ensures in
    let v = vouched-aside E a.self.now.tag_length a.self.now.nonce (block_of a.x) a.n s _ _ _ _ p c.mac_part-y.ensures c.tag_of-t.ensures c.same-ok.ensures in
    sym c.if-ok.false ∙ v
