-- What a search behind the first legs of a way tells, for a pair with a walk. Assumes nothing.
use Prim.Native.Nat.{ℕ, zero, suc, ◌+◌, ◌-◌, ◌≤◌, ◌<◌}
use mathlib.Core.Path.{◌≡◌, refl, sym, ap, ◌∙◌}
use mathlib.Core.Bool.{Bool, true, false}
use mathlib.Core.List.{List, [], ◌∷◌, ◌++◌}
use mathlib.Core.Logic.{by_cases}
use native.Mathlib.Omega.{arith}
use native.Mathlib.Decide.{ℕ_discrete}
use borrow.Author.Tests.{eqb-true, eq-eqb}
use lib.Dec.{eqb}
use lib.ListN.{length, get_or, take, replicate, length-replicate}
use lib.Seq.{take-suc}
use Rattle.lists.proofs.ListLaws.{not_both}
use Rattle.ways.specs.declared.Pair.{Pair}
use Rattle.std.specs.Prelude.{Option, Some, None, is_some, not}
use Rattle.std.specs.Option.{option_eq}
use Rattle.ways.specs.Found.{found_of, begins, found_at, Placeable, Listable}
use Rattle.ways.proofs.ListingLaws.{front, rise, found_some, found_none}
use Rattle.judging.specs.Legs.{FirstLegs}
use Rattle.judging.specs.Judge.{Tells, Judgeable, LegJudgeable, FirstBehind, NoneBehind, search_from}

-- a pair that can be judged can be listed, into a buffer with an entry for each slot
pub listable : (bs : List ℕ) (q : Pair) (l : List ℕ) → Judgeable bs q l → Listable bs q (replicate q.slots 0)
listable bs q l g =
    record {
      accepted = g.accepted;
      source = g.source;
      fewest = g.fewest;
      path = g.path;
      room = omega (arith, length-replicate {A = ℕ} q.slots 0);
    }

module _ (bs : List ℕ) (q : Pair) (l : List ℕ) (k : ℕ) (w : List ℕ) (g : LegJudgeable bs q l k w) where
  -- what the search asks
  pub search_ready : Placeable bs q l k w
  search_ready =
      record {
        searchable = record { accepted = g.pair.accepted; table = g.pair.table };
        leg = g.leg;
        entry = let few = g.leg in let room = g.room in omega arith;
      }

  entry : k < length w
  entry = search_ready.entry

  -- what stands behind the first legs stands behind what leads home
  standing : (m : ℕ) → begins bs q (take k w ++ m ∷ []) ≡ true → begins bs q (take k w) ≡ true
  standing m e = front bs q (replicate q.slots 0) (listable bs q l g.pair) (take k w) m e

  module _ (from : ℕ) (f : Option ℕ) (is : found_of f ≡ found_at bs q l k from w) where
    -- nothing is found
    pub nothing_there : f ≡ None → NoneBehind (begins bs q) (take k w) from
    unfolding found_of
    nothing_there e =
        record {
          no_position = λ m low serves.
              found_none bs q (replicate q.slots 0) (listable bs q l g.pair) l g.pair.table w k from g.leg entry
              (standing m serves) (sym is ∙ ap found_of e) m low serves;
        }

    -- a position is found
    pub first_there : (j : ℕ) → f ≡ Some j → FirstBehind (begins bs q) (take k w) from j
    unfolding found_of
    first_there j e =
        let r = found_some bs q (replicate q.slots 0) (listable bs q l g.pair) l g.pair.table w k from g.leg entry
        (sym is ∙ ap found_of e) in
        record { low = r.low; serves = r.passes; first = r.sooner }

    -- whether it is the position asked about
    pub tells_found : (r : Bool) (i : ℕ) → r ≡ option_eq eqb f (Some i) → Tells r (FirstBehind (begins bs q) (take k w) from i)
    tells_found r i e = rw e (go f refl)
      where
        go : (o : Option ℕ) → f ≡ o → Tells (option_eq eqb o (Some i)) (FirstBehind (begins bs q) (take k w) from i)
        go None same =
            record { yes = λ h. absurd (not_both h refl); no = λ h a. (nothing_there same).no_position i a.low a.serves }
        go (Some j) same =
            let there = first_there j same in
            record {
              yes = λ h. let same = eqb-true j i h in rw (← same) there;
              no = λ h a.
                  let up = a.first j there.low there.serves in
                  let down = there.first i a.low a.serves in
                  not_both (eq-eqb j i (omega arith)) h;
            }

    -- whether there is none
    pub tells_none : (r : Bool) → is_some f ≡ not r → Tells r (NoneBehind (begins bs q) (take k w) from)
    tells_none r e = go f refl r e
      where
        go : (o : Option ℕ) → f ≡ o → (r : Bool) → is_some o ≡ not r → Tells r (NoneBehind (begins bs q) (take k w) from)
        go None same true e = record { yes = λ h. nothing_there same; no = λ h. absurd (not_both refl h) }
        go None same false e = absurd (not_both e refl)
        go (Some j) same true e = absurd (not_both refl e)
        go (Some j) same false e =
            let there = first_there j same in
            record { yes = λ h. absurd (not_both h refl); no = λ h a. a.no_position j there.low there.serves }

-- ---- where the search for a leg begins

module _ (bs : List ℕ) (q : Pair) (l : List ℕ) (k : ℕ) (w : List ℕ) (g : LegJudgeable bs q l k w) where
  -- what leads home behind the first k legs stands behind the last of them
  behind_last : (m : ℕ) → begins bs q (take k w ++ m ∷ []) ≡ true → search_from w k ≤ m
  unfolding search_from
  behind_last m e = go k refl
    where
      go : (j : ℕ) → j ≡ k → search_from w j ≤ m
      go zero same = omega arith
      go (suc j) same =
          let inside : j < length w = let h = entry bs q l k w g in omega arith in
          let split : take k w ≡ take j w ++ get_or w j 0 ∷ [] = ap (λ i. take i w) (sym same) ∙ take-suc w j 0 inside in
          let up = rise bs q (replicate q.slots 0) (listable bs q l g.pair) (take j w) (get_or w j 0) m (rw split at e) in
          omega arith

  -- the first from there on is the first of all
  pub first_of_all : (i from : ℕ) (r : Bool) → from ≡ search_from w k → Tells r (FirstBehind (begins bs q) (take k w) from i)
      → Tells r (FirstBehind (begins bs q) (take k w) 0 i)
  first_of_all i from r e a =
      record {
        yes = λ h.
            let there = a.yes h in
            record {
              low = omega arith;
              serves = there.serves;
              first = λ m low serves. there.first m (let up = behind_last m serves in omega arith) serves;
            };
        no = λ h there.
            a.no h
            (record {
              low = let up = behind_last i there.serves in omega arith;
              serves = there.serves;
              first = λ m low serves. there.first m (omega arith) serves;
            });
      }

-- ---- the legs from a given one on

-- each leg below k is the first, or the last, that serves
abbrev pub FirstsTo : (List ℕ → Bool) → ℕ → List ℕ → ℕ → Type 0
FirstsTo t from w k = (j : ℕ) → from ≤ j → j < k → FirstBehind t (take j w) 0 (get_or w j 0)

abbrev pub LastsTo : (List ℕ → Bool) → ℕ → List ℕ → ℕ → Type 0
LastsTo t from w k = (j : ℕ) → from ≤ j → j < k → NoneBehind t (take j w) (get_or w j 0 + 1)

module _ (t : List ℕ → Bool) (h from : ℕ) (w : List ℕ) (room : h ≤ length w) where
  -- one leg more
  pub firsts_more : (k : ℕ) → FirstsTo t from w k → FirstBehind t (take k w) 0 (get_or w k 0) → FirstsTo t from w (k + 1)
  firsts_more k before here j low less =
      by_cases (ℕ_discrete j k) (λ e. rw e here) (λ d. before j low (omega arith))

  -- all legs
  pub firsts_all : (k : ℕ) → h ≤ k → FirstsTo t from w k → FirstLegs t h from w
  firsts_all k past all =
      record {
        serves = λ j low less.
            rw (take-suc w j 0 (omega arith)) (all j low (omega arith)).serves;
        first = λ j low less m serves. (all j low (omega arith)).first m (omega arith) serves;
      }

  -- a leg that is not
  pub first_missing : (k : ℕ) → from ≤ k → k < h → (FirstBehind t (take k w) 0 (get_or w k 0) → ⊥) → FirstLegs t h from w → ⊥
  first_missing k low less not_first all =
      not_first
      (record {
        low = omega arith;
        serves = rw (← take-suc w k 0 (omega arith)) (all.serves k low less);
        first = λ m z serves. all.first k low less m serves;
      })

-- the search begins at the first position, or behind the leg before
pub search_first : (w : List ℕ) (k : ℕ) → k ≡ 0 → 0 ≡ search_from w k
unfolding search_from
search_first w k e = rw e

pub search_behind : (w : List ℕ) (k i : ℕ) → 0 < k → i ≡ get_or w (k - 1) 0 → i + 1 ≡ search_from w k
unfolding search_from
search_behind w k i behind e =
    let split : k ≡ suc (k - 1) = omega arith in
    ap (λ j. j + 1) e ∙ ap (search_from w) (sym split)
