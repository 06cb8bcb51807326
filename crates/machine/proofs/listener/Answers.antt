-- `machine::listener` meets its contract. Assumes nothing.
use mathlib.Core.Path.{sym, ◌∙◌}
use native.Mathlib.Omega.{arith}
use borrow.Author.Rules.{rules}
use Rattle.machine.proofs.Hearing.{one_more, found, not_found}
use Rattle.machine.proofs.listener.Goals as goal
use Rattle.machine.proofs.listener.Goals.{then-i-c+else-hears, else-i-c}

pub began-since-requires : goal.began-since-requires
began-since-requires c = let p = c.requires in let b = p.3 c.args.c p.2 in (p.0, omega (arith, p.1, p.2), b.1, b.2)

pub loop-i-init : goal.loop-i-init
loop-i-init c = (search rules, λ v j h. absurd (omega arith))

pub hears-requires : goal.hears-requires
hears-requires c =
    let f = c in
    let b = f.requires.3 c.loop-i.i (search rules) in
    (search rules, search rules, b.0, b.1, b.2)

pub returns-then-hears : goal.returns-then-hears
returns-then-hears c =
    let h = c in
    let f = h in
    let a = f.args in
    found a.program.now a.words.now a.channel h.began-since.result a.count a.c h.loop-i.i (search rules) h.began-since.ensures h.loop-i.invariant.1
    (search rules)
    c.if-i-c.true
    c.hears.result
    c.if-hears.true
    c.hears.ensures

pub loop-i-preserved : goal.loop-i-preserved
loop-i-preserved c =
    let h = c in
    let a = h.args in (
      search rules,
      one_more a.program.now a.words.now a.channel h.began-since.result a.c h.loop-i.i h.loop-i.invariant.1
          (λ v n. elim c.if-i-c.branch [
            | then-i-c+else-hears w ↦ sym (w.hears.ensures v) ∙ w.if-hears.false
            | else-i-c w ↦ absurd (n w.if-i-c.false)
          ]),
    )

pub returns : goal.returns
returns c =
    let h = c in
    let a = h.args in
    not_found a.program.now a.words.now a.channel h.began-since.result a.count a.c h.loop-i.i (search rules) h.began-since.ensures h.loop-i.invariant.1 (search rules)
