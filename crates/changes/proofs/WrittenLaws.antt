-- Differences taken from loads that were written before. Assumes nothing.
use Prim.Native.Nat.{ℕ, zero, suc, ◌+◌, ◌^◌, ◌≤◌, ◌<◌}
use native.Mathlib.Omega.{arith}
use mathlib.Core.Path.{◌≡◌, sym, ap, ◌∙◌}
use mathlib.Core.List.{List, ◌++◌, map}
use lib.IntN.{ℤ, pos, ◌-ℤ◌}
use lib.ListN.{length, get_or, drop, length-append, length-drop, get_or-append}
use lib.Seq.{drop_at}
use Rattle.temporal.specs.Lists.{from, below}
use Rattle.temporal.specs.Outcome.{over}
use Rattle.lists.proofs.ListLaws.{mem_below, map_ext}
use Rattle.changes.specs.Changes.{Writable, Subtractable, load_at, with_loads, with_differences}
use Rattle.changes.proofs.WritingLaws.{length_made}

module _ {A : Type 0} (f : ℕ → A) where
  get_d_from_made_law : (i k j : ℕ) (d : A) → j < k → get_or (map f (from i k)) j d ≡ f (i + j)
  unfolding from
  get_d_from_made_law i zero j d h = absurd (omega arith)
  get_d_from_made_law i (suc k) zero d h = ap f (omega arith)
  get_d_from_made_law i (suc k) (suc j) d h = get_d_from_made_law (suc i) k j d (omega arith) ∙ ap f (omega arith)

  -- a written entry
  pub over_at : (k j : ℕ) (old : List A) (d : A) → j < k → get_or (over (map f (below k)) old) j d ≡ f j
  unfolding over below
  over_at k j old d h =
      get_or-append (map f (below k)) (drop (length (map f (below k))) old) d j (omega (arith, length_made f k))
      ∙ get_d_from_made_law 0 k j d h ∙ ap f (omega arith)

  -- the table keeps its length
  over_length : (k : ℕ) (old : List A) → k ≤ length old → length (over (map f (below k)) old) ≡ length old
  unfolding over
  over_length k old h = let made = length_made f k in simp (length-append, length-drop) (omega arith)

-- what is written over as many entries as were written before is as if written once
pub over_over : {A : Type 0} (new mid old : List A) → length mid ≡ length new → over new (over mid old) ≡ over new old
unfolding over
over_over new mid old e = ap (λ l. new ++ l) (drop_at mid _ (length new) e ∙ ap (λ j. drop j old) e)

module _ (loads : List ℕ) (at n : ℕ) (old : List ℤ) (room : n ≤ length old) where
  -- loads that were written can be subtracted
  pub written_subtractable :
      (later : List ℕ) (place : ℕ) → ((v : ℕ) → v < n → get_or loads (at + v) 0 < 2 ^ 49) → Writable later place n old →
      Subtractable later place n (with_loads loads at n old)
  unfolding with_loads
  written_subtractable later place small w =
      record {
        writable =
            record {
              loads_room = w.loads_room;
              changes_room = rw (over_length (load_at loads at) n old room) room;
              small = w.small;
            };
        entries = λ v h.
            record { load = get_or loads (at + v) 0; same = over_at (load_at loads at) n v old (pos 0) h; small = small v h };
      }

  -- each entry is then the difference of the two loads
  pub written_differences :
      (later : List ℕ) (place : ℕ) →
      with_differences later place n (with_loads loads at n old)
      ≡ over (map (λ v. load_at later place v -ℤ load_at loads at v) (below n)) old
  unfolding with_loads with_differences
  written_differences later place =
      ap (λ l. over l (with_loads loads at n old))
      (map_ext (below n)
      (λ v m. ap (λ e. load_at later place v -ℤ e) (over_at (load_at loads at) n v old (pos 0) ((mem_below n).0 m))))
      ∙ over_over _ _ old (length_made (load_at loads at) n ∙ sym (length_made (λ v. load_at later place v -ℤ load_at loads at v) n))
