-- `uppaal_steps::names::put_sync` meets its contract. Assumes nothing.
use Rattle.uppaal_steps.proofs.Naming.{sync_internal, sync_none, sync_sends, sync_receives}
use native.Mathlib.Omega.{arith}
use Rattle.blocks.proofs.Runs.{put_is, put_join, put_none}
use Rattle.uppaal_steps.proofs.names.put_sync.Goals as goal

pub returns-then-kind-eq0 : goal.returns-then-kind-eq0
returns-then-kind-eq0 c =
    let a = c.args in
    (put_is (sync_internal a.kind a.message c.if-kind-eq0.true) (put_none a.out.now a.at), omega arith)

pub returns-then-message-eq255 : goal.returns-then-message-eq255
returns-then-message-eq255 c =
    let a = c.args in
    (put_is (sync_none a.kind a.message c.if-message-eq255.true) (put_none a.out.now a.at), omega arith)

pub returns-then-kind-eq1 : goal.returns-then-kind-eq1
returns-then-kind-eq1 c =
    let a = c.args in
    (put_is (sync_sends a.kind a.message c.if-kind-eq1.true c.if-message-eq255.false) (put_join c.put_field-next.ensures.0 c.put_words.ensures), omega arith)

pub returns : goal.returns
returns c =
    let a = c.args in
    (put_is (sync_receives a.kind a.message c.if-kind-eq0.false c.if-kind-eq1.false c.if-message-eq255.false) (put_join c.put_field-next.ensures.0 c.put_words-2.ensures), omega arith)
