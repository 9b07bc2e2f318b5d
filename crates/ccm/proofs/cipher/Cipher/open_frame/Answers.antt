-- `Cipher::open_frame` meets its contract. The part after the associated data is lent on.
-- Assumes nothing.
use Rattle.aes.specs.Words.{cipher_words}
use borrow.Author.Rules.{rules}
use Rattle.ccm.proofs.FrameLaws.{frame-vouched, frame_opened}
use Rattle.ccm.proofs.cipher.Cipher.open_frame.Goals as goal

pub returns-clause-value : goal.returns-clause-value
returns-clause-value c =
    let a = c.args in
    let o = c.open_part in
    frame-vouched (cipher_words a.self.now.keys.now) a.self.now.tag_length a.self.now.nonce a.at a.n a.buf.now _ o.result (search rules) c.mac_head-x.ensures o.ensures.value

pub returns-clause-opened : goal.returns-clause-opened
returns-clause-opened c =
    let a = c.args in
    let o = c.open_part in
    frame_opened (cipher_words a.self.now.keys.now) a.self.now.nonce a.at a.n a.buf.now o.new.s o.result o.ensures.opened
