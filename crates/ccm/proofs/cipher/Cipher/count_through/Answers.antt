-- `Cipher::count_through` meets its contract. Assumes nothing.
use Rattle.std.proofs.Common.{◌≡◌, ◌+◌, ◌*◌, ◌≤◌, length, sym, ap, add-one, append-nil, drop_of_length-le, take_all, arith, rules}
use Rattle.aes.specs.Words.{cipher_words}
use Rattle.laws.specs.Parts.{part-rest, put_rest}
use Rattle.ccm.proofs.Laws.{counted_step, counted-nil}
use Rattle.ccm.proofs.cipher.Cipher.count_through.Goals as goal

pub loop-i-preserved : goal.loop-i-preserved
loop-i-preserved c =
    let l = c.loop-i in
    let a = c.args.self.now in
    let k = c.key_block-k in
    let x = c.xor_block.new.s in
    let at = 16 * l.i in
    let e : 16 * (l.i + 1) ≡ at + 16 = omega arith in
    let t = counted_step (cipher_words a.keys.now) a.nonce (l.i + 1) at l.s (ap length (sym k.ensures)) (search rules) in
    rw (e, add-one (l.i + 1)) (cc (t, put_rest at l.s x, part-rest at l.s))

pub returns : goal.returns
returns c =
    let l = c.loop-i in
    let h : length l.s ≤ 16 * l.i = search rules in
    rw (drop_of_length-le l.s h, counted-nil, append-nil, take_all (16 * l.i) l.s h) at l.invariant
