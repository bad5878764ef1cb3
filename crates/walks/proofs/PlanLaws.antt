-- The contacts of plan bytes: which contact stands at a position, and what acceptance says of it. Assumes nothing.
use Prim.Native.Nat.{ℕ, zero, suc, ◌+◌, ◌<◌, ◌≤◌}
use native.Mathlib.Decide.{dec_lt, ℕ_discrete}
use mathlib.Core.Bool.{true, false, false≢true}
use mathlib.Core.Logic.{by_cases}
use borrow.Author.Tests.{le-ltb, ne_eqb}
use native.Mathlib.Omega.{arith}
use mathlib.Core.Path.{◌≡◌, sym, ap, subst, ◌∙◌}
use mathlib.Core.List.{List, map}
use mathlib.Core.Option.{some}
use lib.ListN.{length, length-map, get_elem?}
use Rattle.temporal.specs.Lists.{from, below}
use Rattle.temporal.specs.Plan.{Contact, Terms, Keeps}
use Rattle.temporal.specs.Bytes.{contact_at, records, plan_of}
use Rattle.temporal.specs.Cause.{is_above, plan_fault}
use Rattle.walks.proofs.Accepted.{ContactWithin, accepted}
use Rattle.lists.proofs.ListLaws.{length_below}
use Rattle.lists.proofs.OptionLaws.{position_below}
use Rattle.walks.proofs.RuleLaws.{Kept}
use Rattle.walks.proofs.WalkLaws.{SlotsWithin}

get_elem_map_from_law : {A : Type 0} (f : ℕ → A) (i k j : ℕ) → j < k → get_elem? (map f (from i k)) j ≡ some (f (i + j))
unfolding from
get_elem_map_from_law f i zero j h = absurd (omega arith)
get_elem_map_from_law f i (suc k) zero h = let same : i ≡ i + 0 = omega arith in ap (λ x. some (f x)) same
get_elem_map_from_law f i (suc k) (suc j) h =
    let same : suc i + j ≡ i + suc j = omega arith in
    get_elem_map_from_law f (suc i) k j (omega arith) ∙ ap (λ x. some (f x)) same

-- a record above another has no smaller slot
pub above_slots : (c d : Contact) → is_above c d ≡ true → c.slot ≤ d.slot
unfolding is_above
above_slots c d e =
    by_cases (dec_lt c.slot d.slot) (λ h. omega arith)
    (λ h. by_cases (ℕ_discrete c.slot d.slot) (λ q. omega arith)
    (λ q. absurd (false≢true (sym (neither h q) ∙ e))))
  where
    neither : (c.slot < d.slot → ⊥) → (c.slot ≡ d.slot → ⊥) → is_above c d ≡ false
    neither h q = rw (le-ltb c.slot d.slot (omega arith), ne_eqb c.slot d.slot q)

-- in an accepted plan nothing goes stale that is kept for 255 slots
pub kept_always : (bs : List ℕ) (n t : ℕ) → plan_fault bs n t ≡ 0 → t ≤ 255 + 1
kept_always bs n t ok = let most = (accepted bs n t ok).slots in omega arith

-- in a plan of t slots nothing goes stale where nothing does in t slots
pub kept_plan : (bs : List ℕ) (n t : ℕ) (terms : Terms) → Keeps t terms → Kept (plan_of bs n t terms)
unfolding plan_of
kept_plan bs n t terms keeps = record { lasts = keeps }

module _ (bs : List ℕ) (n t : ℕ) (terms : Terms) where
  -- the contact at a position is the record there
  pub contact_there : (i : ℕ) → i < records bs → get_elem? (plan_of bs n t terms).contacts i ≡ some (contact_at bs i)
  unfolding plan_of below
  contact_there i h =
      let same : 0 + i ≡ i = omega arith in
      get_elem_map_from_law (contact_at bs) 0 (records bs) i h ∙ ap (λ x. some (contact_at bs x)) same

  -- a plan has as many contacts as its bytes have records
  pub contacts_length : length (plan_of bs n t terms).contacts ≡ records bs
  unfolding plan_of
  contacts_length = length-map (below (records bs)) (contact_at bs) ∙ length_below (records bs)

  -- where a contact stands, it is the record, at a position of the plan
  pub contact_inv :
      (i : ℕ) (c : Contact) → get_elem? (plan_of bs n t terms).contacts i ≡ some c → (i < records bs) × (contact_at bs i ≡ c)
  contact_inv i c e =
      let inside = subst (λ k. i < k) contacts_length (position_below (plan_of bs n t terms).contacts i e) in
      let there : some (contact_at bs i) ≡ some c = sym (contact_there i inside) ∙ e in
      (inside, cc)

  module _ (ok : plan_fault bs n t ≡ 0) where
    -- each contact of an accepted plan is within its slots and stations
    pub contact_within : (i : ℕ) (c : Contact) → get_elem? (plan_of bs n t terms).contacts i ≡ some c → ContactWithin n t c
    contact_within i c e =
        let (inside, same) = contact_inv i c e in
        subst (ContactWithin n t) same ((accepted bs n t ok).contact i inside)

    pub slots_within : SlotsWithin (plan_of bs n t terms)
    unfolding plan_of
    slots_within = record { within = λ i c e. (contact_within i c e).to_last }

    -- the records' slots do not fall
    pub slots_sorted :
        (i k : ℕ) → i + k < records bs → (contact_at bs i).slot ≤ (contact_at bs (i + k)).slot
    slots_sorted i zero h = let same : i + 0 ≡ i = omega arith in rw same (omega arith)
    slots_sorted i (suc k) h =
        let next : i + suc k ≡ suc (i + k) = omega arith in
        let before = slots_sorted i k (omega arith) in
        let above = above_slots _ _ ((accepted bs n t ok).rising (i + k) (omega arith)) in
        rw next (omega arith)
