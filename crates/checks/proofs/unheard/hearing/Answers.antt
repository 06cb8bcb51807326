-- `checks::unheard::hearing` meets its contract. Assumes nothing.
use native.Mathlib.Omega.{arith}
use Rattle.model.specs.Lists.{only}
use Rattle.model.specs.Places.{read_of}
use Rattle.rows.specs.Rows.{row_passage, rows_of}
use Rattle.checks.proofs.Questions.{hearing}
use Rattle.checks.proofs.Listening.{by_nobody, by_components}
use Rattle.checks.proofs.Single.{alone_window, by_one, not_by_one, handed_on}
use Rattle.checks.proofs.unheard.hearing.Goals as goal

pub returns-then-components-eq0 : goal.returns-then-components-eq0
returns-then-components-eq0 c =
    let a = c.args in
    let r = c.listeners_of-listeners in
    let s = row_passage a.rows.now a.send in
    let found = only (hearing a.spread (read_of a.table.now).table s) (rows_of a.rows.now a.count) in
    (by_nobody a.rows.now a.count r.result.listening r.result.repeated r.result.row a.spread s found r.ensures c.if-components-eq0.true, λ e. cc)

pub returns-then-components-ne1 : goal.returns-then-components-ne1
returns-then-components-ne1 c =
    let a = c.args in
    let r = c.listeners_of-listeners in
    let s = row_passage a.rows.now a.send in
    let found = only (hearing a.spread (read_of a.table.now).table s) (rows_of a.rows.now a.count) in
    (by_components a.rows.now a.count r.result.listening r.result.repeated r.result.row a.spread s found r.ensures c.if-components-eq0.false c.if-components-ne1.true, λ e. cc)

pub bounds-listeners-component : goal.bounds-listeners-component
bounds-listeners-component c =
    let e = c in
    let a = e.args in
    let r = c.listeners_of-listeners in
    (alone_window a.spread a.table.now a.rows.now a.count a.send r.result.listening r.result.repeated r.result.row c.type_inv.table e.requires.0 r.ensures c.if-components-ne1.false c.if-listeners-ne0.false).small

pub heard_by-requires : goal.heard_by-requires
heard_by-requires c =
    let e = c in
    let a = e.args in
    let r = c.listeners_of-listeners in
    let alone = alone_window a.spread a.table.now a.rows.now a.count a.send r.result.listening r.result.repeated r.result.row c.type_inv.table e.requires.0 r.ensures c.if-components-ne1.false c.if-listeners-ne0.false in
    (omega (arith, alone.there, e.requires.0.fits), omega (arith, e.requires.1, e.requires.0.fits))

pub returns-in_err-heard_by : goal.returns-in_err-heard_by
returns-in_err-heard_by c =
    let e = c in
    let a = e.args in
    let r = c.listeners_of-listeners in
    let alone = alone_window a.spread a.table.now a.rows.now a.count a.send r.result.listening r.result.repeated r.result.row c.type_inv.table e.requires.0 r.ensures c.if-components-ne1.false c.if-listeners-ne0.false in
    let T = (read_of a.table.now).table in
    let fault = c.in_err-heard_by in
    handed_on a.spread T a.rows.now a.count a.send c.from_residual.result fault.field-0.0 c.from_residual.ensures.1
    (not_by_one a.spread T a.rows.now a.count a.send fault.field-0.0 _ alone.only fault.ensures.0) fault.ensures.1

pub returns : goal.returns
returns c =
    let e = c in
    let a = e.args in
    let r = c.listeners_of-listeners in
    let alone = alone_window a.spread a.table.now a.rows.now a.count a.send r.result.listening r.result.repeated r.result.row c.type_inv.table e.requires.0 r.ensures c.if-components-ne1.false c.if-listeners-ne0.false in
    by_one a.spread (read_of a.table.now).table a.rows.now a.count a.send _ alone.only alone.there c.in_ok-heard_by.ensures
