-- The load of a table, from what the reader and the schedule answer. Assumes nothing.
use mathlib.Core.Path.{◌≡◌, refl, sym, ap, ap₂, ◌∙◌}
use mathlib.Core.List.{List}
use Prim.Native.Nat.{ℕ, ◌≤◌}
use native.Mathlib.Omega.{arith}
use lib.ListN.{length}
use Rattle.model.specs.declared.Verdict.TheVariants.{Accepted, Refused}
use Rattle.model.specs.Lists.{Answer, accepted, refused, ◌after◌}
use Rattle.model.specs.Table.{Read}
use Rattle.model.specs.Reader.{read_table}
use Rattle.model.specs.Places.{Valid, read_of}
use Rattle.model.specs.Schedule.{Passage}
use Rattle.model.specs.Checks.{accepted_schedule_of}
use Rattle.model.specs.Calls.{verdict_of, accepted_schedule_in, check_call}
use Rattle.model.proofs.Reader.Located.{valid_read}
use Rattle.model.proofs.Reader.Limits.{read_limits}
use Rattle.model.proofs.Reader.Parts.{after_ok, accepted_same}
use Rattle.table.proofs.Answered.{verdict_refused, verdict_accepted}
use Rattle.rows.specs.Rows.{rows_of, RowsPlaced}
use Rattle.schedule.specs.declared.Scheduled.{Scheduled}
use Rattle.schedule.specs.Filled as filled
use Rattle.site.specs.declared.Loaded.{Loaded}
use Rattle.site.specs.declared.Networks.{Networks}
use Rattle.site.specs.Airtime.{airtime, Load, load_in, putting}
use Rattle.site.specs.Lent.{LoadOf, AsChecked, horizon_of, airtime_of, site_in, answered, refusing, put_call}
use Rattle.site.proofs.Rowing.{light_airtime}

-- a load that is known
pub load_of : (bs : List ℕ) (r : Loaded) (a : Answer Load) → load_in bs ≡ a → r.verdict ≡ verdict_of a → r.horizon ≡ horizon_of a → r.airtime ≡ airtime_of a → LoadOf bs r
load_of bs r a e v h t = record { verdict = v ∙ sym (ap verdict_of e); horizon = h ∙ sym (ap horizon_of e); airtime = t ∙ sym (ap airtime_of e) }

-- the reader refuses it
pub load_unread : (bs : List ℕ) {n c : ℕ} → read_table bs ≡ refused n c → load_in bs ≡ refused n c
unfolding load_in
load_unread bs e = ap (λ (x : Answer Read). x after λ t. accepted_schedule_of t after λ S. accepted (record { horizon = t.horizon; airtime = airtime t.table t.horizon S })) e

-- what is refused, and how, is what `check` says
pub as_checked : (table : List ℕ) → AsChecked table
unfolding load_in check_call accepted_schedule_in
as_checked table = go (read_table table)
  where
    planned : (t : Read) (p : Answer (List Passage)) → verdict_of {A = Load} (p after λ S. accepted (record { horizon = t.horizon; airtime = airtime t.table t.horizon S })) ≡ verdict_of p
    planned t (accepted S) = refl
    planned t (refused n c) = refl

    go : (a : Answer Read) → verdict_of {A = Load} (a after λ t. accepted_schedule_of t after λ S. accepted (record { horizon = t.horizon; airtime = airtime t.table t.horizon S })) ≡ verdict_of (a after accepted_schedule_of)
    go (accepted t) = planned t (accepted_schedule_of t)
    go (refused n c) = refl

-- its horizon is not 0
pub load_real : (table : List ℕ) (l : Load) → load_in table ≡ accepted l → 1 ≤ l.horizon
unfolding load_in
load_real table l e =
    let a = after_ok (read_table table) (λ t. accepted_schedule_of t after λ S. accepted (record { horizon = t.horizon; airtime = airtime t.table t.horizon S })) e in
    let b = after_ok (accepted_schedule_of a.0) (λ S. accepted (record { horizon = a.0.horizon; airtime = airtime a.0.table a.0.horizon S })) a.2 in
    let h : a.0.horizon ≡ l.horizon = ap (λ (x : Load). x.horizon) (accepted_same b.2) in
    omega (arith, (read_limits table a.0 a.1).least_horizon, h)

-- it is read
load_read : (bs : List ℕ) → Valid bs → load_in bs ≡ (filled.accepted_schedule_in 0 bs after λ S. accepted (record { horizon = (read_of bs).horizon; airtime = airtime (read_of bs).table (read_of bs).horizon S }))
unfolding load_in
load_read bs v = ap (λ (x : Answer Read). x after λ t. accepted_schedule_of t after λ S. accepted (record { horizon = t.horizon; airtime = airtime t.table t.horizon S })) (valid_read bs v)

module _ (bs : List ℕ) (v : Valid bs) (r : Scheduled) (rows : List ℕ) (F : filled.Filled bs (filled.accepted_schedule_in 0 bs) r rows) where
  abbrev loads : Answer (List Passage) → Answer Load
  loads a = a after λ S. accepted (record { horizon = (read_of bs).horizon; airtime = airtime (read_of bs).table (read_of bs).horizon S })

  pub load_refused : {n c : ℕ} → r.verdict ≡ Refused n c → load_in bs ≡ refused n c
  load_refused e = load_read bs v ∙ ap loads (verdict_refused (filled.accepted_schedule_in 0 bs) (sym F.verdict ∙ e))

  module _ (e : r.verdict ≡ Accepted) where
    passages : List Passage
    passages = (verdict_accepted (filled.accepted_schedule_in 0 bs) (sym F.verdict ∙ e)).0

    plan_is : filled.accepted_schedule_in 0 bs ≡ accepted passages
    unfolding passages
    plan_is = (verdict_accepted (filled.accepted_schedule_in 0 bs) (sym F.verdict ∙ e)).1

    count_is : r.count ≡ length passages
    count_is = F.count passages plan_is

    pub rows_placed : RowsPlaced bs rows r.count
    rows_placed = rw count_is (F.placed passages plan_is)

    -- the airtime of the rows is that of the schedule
    summed : airtime (read_of bs).table (read_of bs).horizon (rows_of rows r.count) ≡ airtime (read_of bs).table (read_of bs).horizon passages
    summed =
        ap (λ k. airtime (read_of bs).table (read_of bs).horizon (rows_of rows k)) count_is
        ∙ ap (airtime (read_of bs).table (read_of bs).horizon) (F.rows passages plan_is)
        ∙ light_airtime (read_of bs).table (read_of bs).horizon passages

    pub load_made : {h t : ℕ} → h ≡ (read_of bs).horizon → t ≡ airtime (read_of bs).table h (rows_of rows r.count) → LoadOf bs (record { verdict = Accepted; horizon = h; airtime = t })
    load_made {h} {t} p q =
        load_of bs (record { verdict = Accepted; horizon = h; airtime = t }) (accepted (record { horizon = (read_of bs).horizon; airtime = airtime (read_of bs).table (read_of bs).horizon passages }))
        (load_read bs v ∙ ap loads plan_is) refl p
        (q ∙ ap (λ (x : ℕ). airtime (read_of bs).table x (rows_of rows r.count)) p ∙ summed)

-- ## Putting a table

module _ (bs : List ℕ) (r : Loaded) (L : LoadOf bs r) (s : Networks) (k : ℕ) where
  pub put_refused : {n c : ℕ} → r.verdict ≡ Refused n c → refusing s n c ≡ put_call s k bs
  unfolding put_call
  put_refused e = sym (ap (λ (a : Answer Load). answered s k (a after λ l. putting (site_in s) k l)) (verdict_refused (load_in bs) (sym L.verdict ∙ e)))

  module _ (e : r.verdict ≡ Accepted) where
    load : Load
    load = (verdict_accepted (load_in bs) (sym L.verdict ∙ e)).0

    load_is : load_in bs ≡ accepted load
    unfolding load
    load_is = (verdict_accepted (load_in bs) (sym L.verdict ∙ e)).1

    same_load : record { horizon = r.horizon; airtime = r.airtime } ≡ load
    same_load = ap₂ (λ (x y : ℕ). record { horizon = x; airtime = y }) (L.horizon ∙ ap horizon_of load_is) (L.airtime ∙ ap airtime_of load_is)

    -- its horizon is not 0
    pub load_least : 1 ≤ r.horizon
    load_least = omega (arith, load_real bs load load_is, ap (λ (l : Load). l.horizon) same_load)

    pub put_accepted : answered s k (putting (site_in s) k (record { horizon = r.horizon; airtime = r.airtime })) ≡ put_call s k bs
    unfolding put_call
    put_accepted = ap (λ (l : Load). answered s k (putting (site_in s) k l)) same_load ∙ sym (ap (λ (a : Answer Load). answered s k (a after λ l. putting (site_in s) k l)) load_is)
