-- `nwk::open::open_nwk` meets its contract: the steps are those of `judging`, and what is settled is what the definition leaves. Assumes nothing.
use Rattle.judging.proofs.Commit.{sized, opened-settled}
use Rattle.nwk.proofs.open.open_nwk.Goals as goal

pub judge-verdict-requires : goal.judge-verdict-requires
judge-verdict-requires c = sized c.args.nwk c.args.rows.now c.args.used c.args.frame.now _ c.caller_of-caller.ensures

pub returns : goal.returns
returns c =
    opened-settled c.args.nwk c.args.rows.now c.args.used c.args.frame.now _ c.caller_of-caller.ensures _ c.held-standing.ensures _ _ c.judge-verdict.ensures.value c.judge-verdict.ensures.frame_after
    _ _ c.settle-settled.ensures _ c.unwrap_or.ensures
