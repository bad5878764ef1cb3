-- The station that a pass waits for: what its settled entry says of the slot in which it is reached. Assumes nothing.
use Rattle.std.proofs.Common.{◌≡◌, ℕ, ◌<◌, ◌≤◌, Bool, true, false, cond, ltb, ◌⊎◌, List, [], get_or, refl, ◌∙◌, ⊎_elim, arith, ltb-false, ltb-true}
use Rattle.temporal.specs.Plan.{Terms}
use Rattle.temporal.specs.Lists.{below, any}
use Rattle.temporal.specs.Shortest.{hops, count}
use Rattle.temporal.specs.Foremost.{arrival, arrives_by, walks_by}
use Rattle.temporal.specs.Bytes.{plan_of}
use Rattle.temporal.specs.Cause.{plan_fault, station_too_many}
use Rattle.lists.proofs.ListLaws.{any_ext, mem_below, empty_or_member}
use Rattle.walks.proofs.PlanLaws.{slots_within}
use Rattle.walks.proofs.ShortestLaws.{hops_empty, hops_bound}
use Rattle.walks.proofs.Accepted.{accepted}
use Rattle.walks.proofs.Adequacy.{bounded_ends}
use Rattle.walks.proofs.ForemostLaws.{arrival_past, arrival_by, arrival_outside, shortest_by_last}
use Rattle.entries.proofs.HopLaws.{few_slots}
use Rattle.pass.specs.Entry.{reached_entry}
use Rattle.pass.proofs.ColumnLaws.{may_leave}
use Rattle.pass.specs.Column.{Lanes}
use Rattle.pass.proofs.MaskLaws.{Filled}
use Rattle.pass.proofs.StateLaws.{AreaState}
use Rattle.pass.proofs.PlanWalks.{walks_at}
use Rattle.pass.proofs.EndLaws.{at_hops}

-- what is reached is a station
pub reached_station : (n : ℕ) (w : List ℕ) (v : ℕ) → reached_entry n w v ≡ true → v < n
unfolding reached_entry
reached_station n w v e = go (ltb v n) refl e
  where
    go : (b : Bool) → ltb v n ≡ b → cond b (ltb (get_or w v 0) 65535) false ≡ true → v < n
    go true q f = ltb-true v n q
    go false q f = absurd (let z : ◌≡◌ {A = ℕ} 0 1 = cc in omega arith)

module _ (bs : List ℕ) (n t : ℕ) (terms : Terms) (ok : plan_fault bs n t ≡ 0) (s until : ℕ) where
  -- the shortest walks by a slot are none, or have few hops
  few_hops_by : (e : ℕ) → (walks_by (plan_of bs n t terms) s until e ≡ []) ⊎ (hops (walks_by (plan_of bs n t terms) s until e) ≤ t)
  unfolding walks_by plan_of
  few_hops_by e = hops_bound (bounded_ends (plan_of bs n t terms) (slots_within bs n t terms ok) s (arrives_by until e))

  module _ (known : Bool) (lay : Lanes) (full : Filled lay) (col : ℕ → ℕ) (block q : ℕ) (old w : List ℕ) (e j : ℕ) where
    -- not reached by slot e: the arrival is later
    pub not_yet : e ≤ t → s < n → AreaState known lay n block q e old (walks_at (plan_of bs n t terms) s (may_leave s col) e j) w
        → reached_entry n w until ≡ false
        → e < arrival (plan_of bs n t terms) s until
    unfolding reached_entry plan_of
    not_yet inside source state f = go (ltb until n) refl f
      where
        go : (b : Bool) → ltb until n ≡ b → cond b (ltb (get_or w until 0) 65535) false ≡ false
            → e < arrival (plan_of bs n t terms) s until
        go true r f =
            let many = ltb-false (get_or w until 0) 65535 f in
            let here = at_hops bs n t terms ok s known lay full col block q old w e j state until (ltb-true until n r) in
            let most = (accepted bs n t ok).slots in
            ⊎_elim
            (λ empty. arrival_past (plan_of bs n t terms) (slots_within bs n t terms ok) s until (few_slots bs n t terms ok) e inside empty)
            (λ few. absurd (omega arith))
            (few_hops_by e)
        go false r f =
            let most = (accepted bs n t ok).slots in
            let never = arrival_outside bs n t terms ok s until source (ltb-false until n r) in
            omega arith

    -- reached by slot e: the arrival is not later
    pub now_reached : AreaState known lay n block q e old (walks_at (plan_of bs n t terms) s (may_leave s col) e j) w
        → reached_entry n w until ≡ true
        → arrival (plan_of bs n t terms) s until ≤ e
    unfolding reached_entry
    now_reached state f = go (ltb until n) refl f
      where
        go : (b : Bool) → ltb until n ≡ b → cond b (ltb (get_or w until 0) 65535) false ≡ true
            → arrival (plan_of bs n t terms) s until ≤ e
        go true r f =
            let few = ltb-true (get_or w until 0) 65535 f in
            let here = at_hops bs n t terms ok s known lay full col block q old w e j state until (ltb-true until n r) in
            ⊎_elim
            (λ empty. absurd (let many = hops_empty (walks_by (plan_of bs n t terms) s until e) empty in omega arith))
            (λ m. arrival_by (plan_of bs n t terms) (slots_within bs n t terms ok) s until e m.0 m.1)
            (empty_or_member (walks_by (plan_of bs n t terms) s until e))
        go false r f = absurd (let z : ◌≡◌ {A = ℕ} 0 1 = cc in omega arith)

module _ (bs : List ℕ) (n t : ℕ) (terms : Terms) (ok : plan_fault bs n t ≡ 0) (s : ℕ) where
  -- settled entries past the last slot that are over 2^64 - 1 are those of stations that have too many
  pub stations_over : (f : ℕ → Bool)
      → ((v : ℕ) → v < n → f v ≡ ltb 18446744073709551615 (count (walks_by (plan_of bs n t terms) s v t)))
      → any f (below n) ≡ station_too_many (plan_of bs n t terms) s
  unfolding plan_of
  stations_over f e =
      any_ext (below n) (λ v m.
      e v ((mem_below n).0 m) ∙ rw (shortest_by_last bs n t terms ok s v))
