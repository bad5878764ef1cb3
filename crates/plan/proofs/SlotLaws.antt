-- A record of a slot, and none; and the records of a slot from a position on. Assumes nothing.
use Prim.Native.Nat.{ℕ, ◌+◌, ◌*◌, ◌<◌, ◌≤◌}
use native.Mathlib.Omega.{arith}
use native.Mathlib.Decide.{ℕ_discrete}
use mathlib.Core.Path.{◌≡◌, sym, ap, subst, ◌∙◌}
use mathlib.Core.Bool.{Bool, true, false, and-eq-true_iff}
use mathlib.Core.List.{List}
use mathlib.Core.Logic.{◌≢◌, by_cases}
use lib.ListN.{length}
use borrow.Author.Tests.{ltb-true, eqb-true, lt-ltb, le-ltb, eq-eqb}
use Rattle.temporal.specs.Bytes.{contact_at, records}
use Rattle.temporal.specs.Struck.{lacking_record, position_with}
use Rattle.lists.proofs.ListLaws.{not_both}
use Rattle.walks.proofs.LackingLaws.{lacking_nothing, lacking_shorter, lacking_contact, position_there}
use Rattle.plan.specs.Record.{in_slot, SlotRecords}

module _ (bs : List ℕ) (j u : ℕ) where
  -- a record of the slot is there
  pub in_slot_inv : in_slot bs j u ≡ true → (j < records bs) × ((contact_at bs j).slot ≡ u)
  unfolding in_slot
  in_slot_inv e =
      let (there, slot) = (and-eq-true_iff _ _).0 e in
      (ltb-true _ _ there, eqb-true _ _ slot)

  -- the record there is in another slot, if there is one
  pub in_slot_none : in_slot bs j u ≡ false → j < records bs → (contact_at bs j).slot ≢ u
  unfolding in_slot
  in_slot_none e there same =
      let both : in_slot bs j u ≡ true = rw (lt-ltb j (records bs) there, eq-eqb (contact_at bs j).slot u same) in
      not_both both e

-- in bytes that lack the record at position i, a record is in a slot exactly where it is with that record
pub lacking_in_slot : (bs : List ℕ) (i j u : ℕ) → in_slot bs (position_with i j) u ≡ in_slot (lacking_record bs i) j u
unfolding in_slot
lacking_in_slot bs i j u = rw (position_there bs i j, lacking_contact bs i j)

-- as code finds it
pub kept_in_slot : (bs : List ℕ) (i j u k : ℕ) (r : Bool) → k ≡ position_with i j → r ≡ in_slot bs k u →
    r ≡ in_slot (lacking_record bs i) j u
kept_in_slot bs i j u k r at found = found ∙ ap (λ x. in_slot bs x u) at ∙ lacking_in_slot bs i j u

-- past the bytes there is none
pub lacking_past_slot : (bs : List ℕ) (i j u : ℕ) → length bs ≤ j → in_slot (lacking_record bs i) j u ≡ false
unfolding in_slot records
lacking_past_slot bs i j u h = rw (le-ltb j (records (lacking_record bs i)) (let less = lacking_shorter bs i in omega arith))

-- the records from position j to before i are in slot u
pub record Counting (bs : List ℕ) (u j i : ℕ) : Type 0 where
  pub from : j ≤ i
  pub inside : i ≤ records bs
  pub here : (k : ℕ) → j ≤ k → k < i → in_slot bs k u ≡ true

-- a position is below the number of bytes
pub position_small : (bs : List ℕ) (i : ℕ) → i < records bs → i < length bs
unfolding records
position_small bs i h = omega arith

-- a record's position is below the number of the whole bytes
pub kept_small : (bs : List ℕ) (i j : ℕ) → j < records (lacking_record bs i) → j < length bs
kept_small bs i j h = let less = lacking_shorter bs i in let small = position_small (lacking_record bs i) j h in omega arith

module _ (bs : List ℕ) (u j : ℕ) where
  pub counting_none : j * 6 ≤ length bs → Counting bs u j j
  unfolding records
  counting_none h =
      record { from = omega arith; inside = omega arith; here = λ k low high. absurd (omega arith) }

  pub counting_more : (i : ℕ) → in_slot bs i u ≡ true → Counting bs u j i → Counting bs u j (i + 1)
  counting_more i e c =
      let (there, slot) = in_slot_inv bs i u e in
      let f = c.from in
      record {
        from = omega arith;
        inside = omega arith;
        here = λ k low high. by_cases (ℕ_discrete k i) (λ same. rw same e) (λ other. c.here k low (omega arith));
      }

  pub counting_all : (i : ℕ) → in_slot bs i u ≡ false → Counting bs u j i → SlotRecords bs u j i
  counting_all i e c = record { from = c.from; here = c.here; past = e }

-- bytes that lack nothing
module _ (bs : List ℕ) (u j : ℕ) where
  pub whole_ready : j * 6 ≤ length bs → j * 6 ≤ length (lacking_record bs (length bs))
  whole_ready h = subst (λ l. j * 6 ≤ length l) (sym (lacking_nothing bs)) h

  pub whole_records : (e : ℕ) → SlotRecords (lacking_record bs (length bs)) u j e → SlotRecords bs u j e
  whole_records e x = subst (λ l. SlotRecords l u j e) (lacking_nothing bs) x
