-- The layered plan of an accepted plan is accepted. Assumes nothing.
use Prim.Native.Nat.{ℕ, suc, ◌*◌, ◌/◌, ◌≤◌, ◌<◌}
use native.Mathlib.Omega.{arith}
use native.Mathlib.Decide.{dec_lt, ℕ_discrete}
use mathlib.Core.Path.{◌≡◌, refl, sym, ap, subst, ◌∙◌}
use mathlib.Core.Bool.{Bool, true, false, ◌||◌}
use mathlib.Core.List.{List}
use mathlib.Core.Logic.{◌≢◌, by_cases}
use borrow.Author.Tests.{ltb-true, lt-ltb}
use lib.Dec.{eqb}
use Rattle.temporal.specs.Plan.{Contact}
use Rattle.temporal.specs.Bytes.{contact_at, records}
use Rattle.temporal.specs.Cause.{is_above, plan_fault}
use Rattle.lists.proofs.ListLaws.{not_both}
use Rattle.walks.proofs.CheckLaws.{above_slot, above_sender, below_sender, above_hearer}
use Rattle.walks.proofs.Accepted.{Accepted, ContactWithin, accepted}
use Rattle.walks.proofs.RulesKept.{rules_kept}
use Rattle.layered.specs.Layered.{in_layer, heard_in, raised, slot_at, shift, layer_of, down, layered_contact, layered}
use Rattle.layered.proofs.PositionLaws.{Placed, up, slot_has, placed_down}
use Rattle.layered.proofs.RecordLaws.{layered_length, layered_records, layered_contact_law, accepted_sorted}

-- ---- stations and contacts of a layer

pub station_below : (n : ℕ) (layer : Bool) (u : ℕ) → u < n → in_layer n layer u < 2 * n
unfolding in_layer
station_below n false u h = omega arith
station_below n true u h = omega arith

stations_apart : (n : ℕ) (a b : Bool) (u w : ℕ) → u < n → w < n → u ≢ w → in_layer n a u ≢ in_layer n b w
unfolding in_layer
stations_apart n false false u w h k apart = apart
stations_apart n false true u w h k apart = λ e. omega arith
stations_apart n true false u w h k apart = λ e. omega arith
stations_apart n true true u w h k apart = λ e. apart (omega arith)

raised_within : (n t v : ℕ) (layer : Bool) (c : Contact) → ContactWithin n t c → ContactWithin (2 * n) t (raised n v layer c)
unfolding raised
raised_within n t v layer c w =
    record {
      from_one = w.from_one;
      to_last = w.to_last;
      ends = stations_apart n layer (heard_in v c layer) c.sender c.hearer w.sender_station w.hearer_station w.ends;
      sender_station = station_below n layer c.sender w.sender_station;
      hearer_station = station_below n (heard_in v c layer) c.hearer w.hearer_station;
    }

station_rises : (n : ℕ) (layer : Bool) (u w : ℕ) → u < w → in_layer n layer u < in_layer n layer w
unfolding in_layer
station_rises n false u w h = h
station_rises n true u w h = omega arith

-- of one slot and one layer, a contact above another stays above it
raised_above : (n v : ℕ) (layer : Bool) (c d : Contact) → c.slot ≡ d.slot → is_above c d ≡ true →
    is_above (raised n v layer c) (raised n v layer d) ≡ true
unfolding raised heard_in
raised_above n v layer c d slot above =
    by_cases (dec_lt c.sender d.sender)
    (λ less. above_sender _ _ slot (station_rises n layer c.sender d.sender less))
    (λ no.
    by_cases (dec_lt d.sender c.sender)
    (λ less. absurd (not_both above (below_sender c d slot less)))
    (λ none.
    let same : c.sender ≡ d.sender = omega arith in
    let hearers = ltb-true c.hearer d.hearer (sym (above_hearer c d slot same) ∙ above) in
    let heard : heard_in v c layer ≡ heard_in v d layer = ap (λ s. layer || eqb v s) same in
    above_hearer _ _ slot (ap (in_layer n layer) same) ∙
    lt-ltb (in_layer n (heard_in v c layer) c.hearer) (in_layer n (heard_in v d layer) d.hearer)
    (subst (λ l. in_layer n l c.hearer < in_layer n (heard_in v d layer) d.hearer) (sym heard)
    (station_rises n (heard_in v d layer) c.hearer d.hearer hearers))))

-- of one slot, a contact of layer 1 is above one of layer 0
layers_above : (n v : ℕ) (c d : Contact) → c.slot ≡ d.slot → c.sender < n → is_above (raised n v false c) (raised n v true d) ≡ true
unfolding raised in_layer
layers_above n v c d slot low = above_sender _ _ slot (omega arith)

-- ---- the layered plan

module _ (bs : List ℕ) (n t v : ℕ) (ok : plan_fault bs n t ≡ 0) where
  a : Accepted bs n t
  a = accepted bs n t ok

  slots_rise : (q : ℕ) → suc q < 2 * records bs → slot_at bs q ≤ slot_at bs (suc q)
  unfolding slot_at
  slots_rise q h = accepted_sorted bs n t ok (q / 2) (suc q / 2) (omega arith) (omega arith)

  -- the next contact, in the same slot and layer
  next_same : (q i j : ℕ) (layer : Bool) → Placed bs q i layer → Placed bs (suc q) j layer
      → (contact_at bs i).slot ≡ (contact_at bs j).slot
      → is_above (raised n v layer (contact_at bs i)) (raised n v layer (contact_at bs j)) ≡ true
  unfolding up
  next_same q i j layer x y slot =
      let shifts : shift bs (contact_at bs i).slot layer ≡ shift bs (contact_at bs j).slot layer = ap (λ u. shift bs u layer) slot in
      let here = x.upward in
      let next = y.upward in
      let there = y.there in
      let step : suc i ≡ j = omega arith in
      raised_above n v layer (contact_at bs i) (contact_at bs j) slot
      (subst (λ k. is_above (contact_at bs i) (contact_at bs k) ≡ true) step (a.rising i (omega arith)))

  -- layer 0 does not follow layer 1 in a slot
  no_step_down : (q i j : ℕ) → Placed bs q i true → Placed bs (suc q) j false → (contact_at bs i).slot ≡ (contact_at bs j).slot → ⊥
  unfolding up
  no_step_down q i j x y slot =
      let here = x.upward in
      let next = y.upward in
      let w = slot_has bs (accepted_sorted bs n t ok) (contact_at bs j).slot i x.there slot in
      let z = slot_has bs (accepted_sorted bs n t ok) (contact_at bs j).slot j y.there refl in
      let shifts : shift bs (contact_at bs i).slot true ≡ shift bs (contact_at bs j).slot true = ap (λ u. shift bs u true) slot in
      let from = w.from in
      let to = z.to in
      omega arith

  -- the next contact, in the same slot
  next_above : (q i j : ℕ) (k l : Bool) → Placed bs q i k → Placed bs (suc q) j l → (contact_at bs i).slot ≡ (contact_at bs j).slot
      → is_above (raised n v k (contact_at bs i)) (raised n v l (contact_at bs j)) ≡ true
  next_above q i j false false x y slot = next_same q i j false x y slot
  next_above q i j false true x y slot = layers_above n v (contact_at bs i) (contact_at bs j) slot (a.contact i x.there).sender_station
  next_above q i j true false x y slot = absurd (no_step_down q i j x y slot)
  next_above q i j true true x y slot = next_same q i j true x y slot

  layered_rising : (q : ℕ) → suc q < 2 * records bs → is_above (layered_contact bs n v q) (layered_contact bs n v (suc q)) ≡ true
  unfolding layered_contact raised
  layered_rising q h =
      let x = placed_down bs (accepted_sorted bs n t ok) q (omega arith) in
      let y = placed_down bs (accepted_sorted bs n t ok) (suc q) h in
      let rises = slots_rise q h in
      let first = x.slot in
      let next = y.slot in
      by_cases (ℕ_discrete (contact_at bs (down bs q)).slot (contact_at bs (down bs (suc q))).slot)
      (next_above q (down bs q) (down bs (suc q)) (layer_of bs q) (layer_of bs (suc q)) x y)
      (λ other. above_slot _ _ (omega arith))

  layered_within : (q : ℕ) → q < 2 * records bs → ContactWithin (2 * n) t (layered_contact bs n v q)
  unfolding layered_contact
  layered_within q h =
      raised_within n t v (layer_of bs q) (contact_at bs (down bs q))
      (a.contact (down bs q) (placed_down bs (accepted_sorted bs n t ok) q h).there)

  -- The layered plan of an accepted plan is accepted, where twice its stations and twice its records are within the limits.
  pub layered_accepted : 2 * n ≤ 256 → 2 * records bs ≤ 8192 → plan_fault (layered bs n v) (2 * n) t ≡ 0
  layered_accepted stations few =
      let size = layered_length bs n v in
      let number = layered_records bs n v in
      let some = a.some_station in
      rules_kept (layered bs n v) (2 * n) t
      (record {
        some_station = omega arith;
        stations = stations;
        some_slot = a.some_slot;
        slots = a.slots;
        whole = omega arith;
        few = omega arith;
        contact = λ q h. rw (layered_contact_law bs n v q (omega arith)) (layered_within q (omega arith));
        rising = λ q h.
            rw (layered_contact_law bs n v q (omega arith), layered_contact_law bs n v (suc q) (omega arith)) (layered_rising q (omega arith));
      })
