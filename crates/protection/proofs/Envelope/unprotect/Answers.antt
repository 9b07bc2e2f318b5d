-- `protection::Envelope::unprotect` meets its contract. Assumes nothing.
use borrow.Author.Rules.{rules}
use Rattle.protection.proofs.Answers.{answer-is, opens, keeps}
use Rattle.protection.proofs.Envelope.unprotect.Goals as goal

pub returns-then-is_err-clause-value : goal.returns-then-is_err-clause-value
returns-then-is_err-clause-value c =
    let s = c.args.self in
    answer-is _ _ c.expand-keys.ensures s.sender s.counter s.at s.payload c.args.frame.now (search rules) (search rules) _ _ c.filled-control.ensures c.nonce-nonce.ensures _ _ c.unseal-opened.ensures.value c.unseal-opened.ensures.opened

pub returns-then-is_err-clause-frame_after : goal.returns-then-is_err-clause-frame_after
returns-then-is_err-clause-frame_after c =
    let s = c.args.self in
    keeps _ _ c.expand-keys.ensures s.sender s.counter s.at s.payload c.args.frame.now (search rules) (search rules) _ _ c.filled-control.ensures c.nonce-nonce.ensures _ _ c.unseal-opened.ensures.value c.unseal-opened.ensures.opened (search rules)

pub returns-else-is_err-clause-value : goal.returns-else-is_err-clause-value
returns-else-is_err-clause-value c =
    let s = c.args.self in
    answer-is _ _ c.expand-keys.ensures s.sender s.counter s.at s.payload c.args.frame.now (search rules) (search rules) _ _ c.filled-control.ensures c.nonce-nonce.ensures _ _ c.unseal-opened.ensures.value c.unseal-opened.ensures.opened

pub returns-else-is_err-clause-frame_after : goal.returns-else-is_err-clause-frame_after
returns-else-is_err-clause-frame_after c =
    let s = c.args.self in
    opens _ _ c.expand-keys.ensures s.sender s.counter s.at s.payload c.args.frame.now (search rules) (search rules) _ _ c.filled-control.ensures c.nonce-nonce.ensures _ _ c.unseal-opened.ensures.value c.unseal-opened.ensures.opened (search rules)
