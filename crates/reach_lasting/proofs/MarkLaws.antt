-- Marks of stations that are taken in: where they stand while a slot is settled by its records, and that they are all taken away.
-- Assumes nothing.
use Prim.Native.Nat.{ℕ, zero, suc, ◌+◌, ◌-◌, ◌*◌, ◌<◌, ◌≤◌}
use native.Mathlib.Omega.{arith}
use native.Mathlib.Decide.{dec_lt, ℕ_discrete}
use mathlib.Core.Path.{◌≡◌, refl, ap, ◌∙◌}
use mathlib.Core.List.{List}
use mathlib.Core.Logic.{◌≢◌, ◌⊎◌, inl, inr, ⊎_elim, by_cases}
use borrow.Author.Tests.{lt-ltb, le-ltb}
use lib.ListN.{length, get_or, set, length-set}
use lib.Seq.{get_or-set_same, get_or-set_other, ext_get_or}
use Rattle.reach_lasting.specs.Slot.{hearer_at, unmarked_at, unmarked_by, Unmarked, HearersFit}
use Rattle.reach_entries.proofs.PlaceLaws.{place_below}
use Rattle.reach_entries.proofs.TableLaws.{slots_apart}

-- the count at p is 2 more than it was, and p is the mark of the hearer of a record from j to before i
pub record MarkedAt (bs : List ℕ) (width j i : ℕ) (old now : List ℕ) (p : ℕ) : Type 0 where
  pub by : ℕ
  pub from : j ≤ by
  pub to : by < i
  pub place : p ≡ hearer_at bs by * width
  pub count : get_or now p 0 ≡ get_or old p 0 + 2

-- the count at every place is as it was, or is marked
abbrev pub Marks : List ℕ → ℕ → ℕ → ℕ → List ℕ → List ℕ → Type 0
Marks bs width j i old now = (p : ℕ) → (get_or now p 0 ≡ get_or old p 0) ⊎ MarkedAt bs width j i old now p

module _ (bs : List ℕ) (width : ℕ) (old now : List ℕ) where
  -- past slot 0 a count is as it was
  pub marks_later :
      (j i v u : ℕ) → 0 < u → u < width → Marks bs width j i old now → get_or now (v * width + u) 0 ≡ get_or old (v * width + u) 0
  marks_later j i v u low high marks =
      ⊎_elim (λ e. e)
      (λ (m : MarkedAt bs width j i old now (v * width + u)).
      absurd (slots_apart v u (hearer_at bs m.by) 0 width high (omega arith) (λ e. omega arith)
      (m.place ∙ spot (hearer_at bs m.by))))
      (marks (v * width + u))
    where
      spot : (w : ℕ) → w * width ≡ w * width + 0
      spot w = omega arith

  -- marks over more records
  pub marks_wider : (j i : ℕ) → Marks bs width j i old now → Marks bs width j (i + 1) old now
  marks_wider j i marks p =
      ⊎_elim inl
      (λ (m : MarkedAt bs width j i old now p).
      let low = m.to in
      inr (record { by = m.by; from = m.from; to = omega arith; place = m.place; count = m.count }))
      (marks p)

  -- the hearer of one record more is marked
  pub marks_more :
      (j i b : ℕ) → b ≡ hearer_at bs i → j ≤ i → b * width < length now → get_or now (b * width) 0 < 2 → Marks bs width j i old now →
      Marks bs width j (i + 1) old (set now (b * width) (get_or now (b * width) 0 + 2))
  marks_more j i b hears from inside free marks p =
      by_cases (ℕ_discrete p (b * width))
      (λ e. inr (record {
        by = i;
        from = from;
        to = omega arith;
        place = e ∙ ap (λ v. v * width) hears;
        count = rw e (get_or-set_same now (b * width) _ 0 inside ∙
            ⊎_elim (λ same. ap (λ a. a + 2) same)
            (λ (m : MarkedAt bs width j i old now (b * width)). let c = m.count in absurd (omega arith)) (marks (b * width)));
      }))
      (λ other.
      let kept = get_or-set_other now (b * width) p (get_or now (b * width) 0 + 2) 0 other in
      ⊎_elim (λ same. inl (kept ∙ same))
      (λ (m : MarkedAt bs width j i old now p).
      let low = m.to in
      inr (record { by = m.by; from = m.from; to = omega arith; place = m.place; count = kept ∙ m.count }))
      (marks p))

-- a mark is taken away, where there is one
pub unmark_none : (c : List ℕ) (at : ℕ) → get_or c at 0 < 2 → c ≡ unmarked_at c at
unfolding unmarked_at
unmark_none c at h = rw (lt-ltb (get_or c at 0) 2 h)

pub unmark_some : (c : List ℕ) (at : ℕ) → 2 ≤ get_or c at 0 → set c at (get_or c at 0 - 2) ≡ unmarked_at c at
unfolding unmarked_at
unmark_some c at h = rw (le-ltb (get_or c at 0) 2 h)

pub unmarked_length : (c : List ℕ) (at : ℕ) → length (unmarked_at c at) ≡ length c
unmarked_length c at =
    by_cases (dec_lt (get_or c at 0) 2)
    (λ none. rw (← unmark_none c at none))
    (λ some. rw (← unmark_some c at (omega arith)) (length-set c at _))

module _ (bs : List ℕ) (n width e : ℕ) (old : List ℕ) (fits : n * width ≤ length old) (some : 0 < width)
    (unmarked : Unmarked n width old) where
  -- the mark of the next record's hearer is taken away
  marks_less :
      (i : ℕ) (now : List ℕ) → length now ≡ length old → hearer_at bs i < n → Marks bs width i e old now →
      Marks bs width (i + 1) e old (unmarked_at now (hearer_at bs i * width))
  marks_less i now same inside marks =
      by_cases (dec_lt (get_or now (hearer_at bs i * width) 0) 2)
      (λ free. rw (← unmark_none now (hearer_at bs i * width) free)
      (λ p. ⊎_elim inl
      (λ (m : MarkedAt bs width i e old now p).
      by_cases (ℕ_discrete m.by i)
      (λ here.
      let at : p ≡ hearer_at bs i * width = m.place ∙ ap (λ k. hearer_at bs k * width) here in
      let c = rw at at m.count in
      absurd (omega arith))
      (λ other.
      let low = m.from in
      inr (record { by = m.by; from = omega arith; to = m.to; place = m.place; count = m.count })))
      (marks p)))
      (λ held. rw (← unmark_some now (hearer_at bs i * width) (omega arith))
      (λ p. by_cases (ℕ_discrete p (hearer_at bs i * width)) (restored p (omega arith)) (kept p)))
    where
      spot : hearer_at bs i * width < length now
      spot = let below = place_below (hearer_at bs i) 0 n width (length old) inside some fits in omega arith

      restored :
          (p : ℕ) → 2 ≤ get_or now (hearer_at bs i * width) 0 → p ≡ hearer_at bs i * width →
          (get_or (set now (hearer_at bs i * width) (get_or now (hearer_at bs i * width) 0 - 2)) p 0 ≡ get_or old p 0) ⊎
          MarkedAt bs width (i + 1) e old (set now (hearer_at bs i * width) (get_or now (hearer_at bs i * width) 0 - 2)) p
      restored p held at =
          inl (rw at (get_or-set_same now (hearer_at bs i * width) _ 0 spot ∙
          ⊎_elim (λ (q : get_or now (hearer_at bs i * width) 0 ≡ get_or old (hearer_at bs i * width) 0).
          let low = unmarked (hearer_at bs i) inside in absurd (omega arith))
          (λ (m : MarkedAt bs width i e old now (hearer_at bs i * width)). let c = m.count in omega arith)
          (marks (hearer_at bs i * width))))

      kept :
          (p : ℕ) → p ≢ hearer_at bs i * width →
          (get_or (set now (hearer_at bs i * width) (get_or now (hearer_at bs i * width) 0 - 2)) p 0 ≡ get_or old p 0) ⊎
          MarkedAt bs width (i + 1) e old (set now (hearer_at bs i * width) (get_or now (hearer_at bs i * width) 0 - 2)) p
      kept p other =
          let stays = get_or-set_other now (hearer_at bs i * width) p (get_or now (hearer_at bs i * width) 0 - 2) 0 other in
          ⊎_elim (λ q. inl (stays ∙ q))
          (λ (m : MarkedAt bs width i e old now p).
          let low = m.from in
          let later : m.by ≢ i = λ here. other (m.place ∙ ap (λ k. hearer_at bs k * width) here) in
          inr (record { by = m.by; from = omega arith; to = m.to; place = m.place; count = stays ∙ m.count }))
          (marks p)

  -- with the marks of the records up to the end taken away, the counts are as they were
  pub unmarked_all :
      (k i : ℕ) (now : List ℕ) → i + k ≡ e → length now ≡ length old → HearersFit bs n i e → Marks bs width i e old now →
      unmarked_by bs width now i k ≡ old
  unfolding unmarked_by
  unmarked_all zero i now up same hears marks =
      ext_get_or 0 now old same
      (λ p h. ⊎_elim (λ q. q)
      (λ (m : MarkedAt bs width i e old now p). let low = m.from in let high = m.to in absurd (omega arith)) (marks p))
  unmarked_all (suc k) i now up same hears marks =
      unmarked_all k (i + 1) (unmarked_at now (hearer_at bs i * width)) (omega arith)
      (unmarked_length now (hearer_at bs i * width) ∙ same) (λ m low high. hears m (omega arith) high)
      (marks_less i now same (hears i (omega arith) (omega arith)).station marks)

-- ---- the loop that takes them away

-- the marks of the records from j to before i are taken away
pub record Unmarking (bs : List ℕ) (width j e : ℕ) (old : List ℕ) (i : ℕ) (now : List ℕ) : Type 0 where
  pub from : j ≤ i
  pub same : length now ≡ length old
  pub rest : unmarked_by bs width now i (e - i) ≡ unmarked_by bs width old j (e - j)

module _ (bs : List ℕ) (width j e : ℕ) (old : List ℕ) where
  pub unmarking_none : Unmarking bs width j e old j old
  unmarking_none = record { from = omega arith; same = refl; rest = refl }

  pub unmarking_more :
      (i : ℕ) (now new : List ℕ) → i < e → new ≡ unmarked_at now (hearer_at bs i * width) → Unmarking bs width j e old i now →
      Unmarking bs width j e old (i + 1) new
  unfolding unmarked_by
  unmarking_more i now new more is w =
      let low = w.from in
      let left : e - i ≡ suc (e - (i + 1)) = omega arith in
      rw is (record {
        from = omega arith;
        same = unmarked_length now (hearer_at bs i * width) ∙ w.same;
        rest = rw left at w.rest;
      })

  pub unmarking_all : (i : ℕ) (now : List ℕ) → e ≤ i → Unmarking bs width j e old i now → now ≡ unmarked_by bs width old j (e - j)
  unfolding unmarked_by
  unmarking_all i now past w = let none : e - i ≡ 0 = omega arith in rw none at w.rest
