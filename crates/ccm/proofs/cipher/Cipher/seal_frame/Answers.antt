-- `Cipher::seal_frame` meets its contract. The part after the associated data is lent on.
-- Assumes nothing.
use Rattle.aes.specs.Words.{cipher_words}
use borrow.Author.Rules.{rules}
use Rattle.ccm.proofs.FrameLaws.{frame-sealed}
use Rattle.ccm.proofs.cipher.Cipher.seal_frame.Goals as goal

pub returns : goal.returns
returns c =
    let a = c.args in
    frame-sealed (cipher_words a.self.now.keys.now) a.self.now.tag_length a.self.now.nonce a.at a.n a.out.now _ c.seal_part.new.s (search rules) c.mac_head-x.ensures c.seal_part.ensures
