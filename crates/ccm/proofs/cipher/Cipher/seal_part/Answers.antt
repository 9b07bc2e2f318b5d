-- `Cipher::seal_part` meets its contract. The front comes back enciphered, and the tag is copied to where it ends.
-- Assumes nothing.
use mathlib.Core.Path.{◌≡◌, ◌∙◌}
use lib.ListN.{length, take}
use lib.Seq.{length-take-le, take-length}
use borrow.Author.Rules.{rules}
use Rattle.words.specs.Words.{block_of}
use Rattle.aes.specs.Words.{cipher_words}
use Rattle.ccm.specs.Ccm.{block, sealed_from, tag_from}
use Rattle.laws.specs.XorLaws.{xor-take}
use Rattle.laws.specs.Parts.{put_two}
use Rattle.ccm.proofs.cipher.Cipher.seal_part.Goals as goal

pub returns : goal.returns
unfolding sealed_from tag_from
returns c =
    let a = c.args in
    let x = c.count_through.new.s in
    let y = c.mac_part-y.result in
    let t = c.tag_of-t.result in
    let s = a.s.now in
    let lx : length x ≡ a.n = c.count_through.auto.s ∙ length-take-le a.n s (search rules) in
    let lt : length (take a.self.now.tag_length t) ≡ a.self.now.tag_length = length-take-le a.self.now.tag_length t (search rules) in
    cc (put_two a.n a.self.now.tag_length x (take a.self.now.tag_length t) s lx lt, take-length (take a.self.now.tag_length t), xor-take a.self.now.tag_length (block_of y) (cipher_words a.self.now.keys.now (block 1 a.self.now.nonce 0)))
