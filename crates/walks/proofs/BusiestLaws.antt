-- The busiest station: there always is one, and it is the one that is defined. Assumes nothing.
use Prim.Native.Nat.{ℕ, zero, suc, ◌<◌, ◌≤◌}
use native.Mathlib.Omega.{arith}
use native.Mathlib.Decide.{dec_lt, ℕ_discrete}
use mathlib.Core.Path.{◌≡◌, refl, sym, ap, subst}
use mathlib.Core.Bool.{true, false, not}
use mathlib.Core.Logic.{by_cases}
use borrow.Author.Tests.{lt-ltb, le-ltb}
use lib.Dec.{ltb}
use Rattle.temporal.specs.Lists.{below}
use Rattle.temporal.specs.Plan.{Plan}
use Rattle.temporal.specs.Load.{load, is_largest, busiest_of, Busiest}
use Rattle.lists.proofs.ListLaws.{any_true, any_false, mem_below, first_where_law}

-- the lowest of the places below n at which f is largest
record Top (f : ℕ → ℕ) (n : ℕ) : Type 0 where
  place : ℕ
  within : place < n
  largest : (u : ℕ) → u < n → f u ≤ f place
  lowest : (u : ℕ) → u < place → f u < f place

-- there always is one
top : (f : ℕ → ℕ) (n : ℕ) → Top f (suc n)
top f zero =
    record {
      place = 0;
      within = omega arith;
      largest = λ u h. let same : u ≡ 0 = omega arith in rw same (omega arith);
      lowest = λ u h. absurd (omega arith);
    }
top f (suc n) = next (top f n)
  where
    next : Top f (suc n) → Top f (suc (suc n))
    next x =
        by_cases (dec_lt (f x.place) (f (suc n)))
        (λ more.
        record {
          place = suc n;
          within = omega arith;
          largest = λ u h.
              by_cases (ℕ_discrete u (suc n)) (λ same. rw same (omega arith))
              (λ other. let less = x.largest u (omega arith) in omega arith);
          lowest = λ u h. let less = x.largest u h in omega arith;
        })
        (λ less.
        let inside = x.within in
        record {
          place = x.place;
          within = omega arith;
          largest = λ u h.
              by_cases (ℕ_discrete u (suc n)) (λ same. rw same (omega arith)) (λ other. x.largest u (omega arith));
          lowest = x.lowest;
        })

module _ (p : Plan) where
  -- a station whose load no other exceeds passes the test
  largest_passes : (v : ℕ) → ((u : ℕ) → u < p.stations → load p u ≤ load p v) → is_largest p v ≡ true
  unfolding is_largest
  largest_passes v h =
      ap not
      ((any_false (λ u. ltb (load p v) (load p u)) (below p.stations)).1
      (λ u m. le-ltb (load p v) (load p u) (h u ((mem_below p.stations).0 m))))

  -- one whose load another exceeds does not
  smaller_fails : (v u : ℕ) → u < p.stations → load p v < load p u → is_largest p v ≡ false
  unfolding is_largest
  smaller_fails v u h less =
      ap not
      ((any_true (λ u. ltb (load p v) (load p u)) (below p.stations)).1
      (u, (mem_below p.stations).1 h, lt-ltb (load p v) (load p u) less))

  -- The busiest station is determined: whichever is as it is to be, is the one that is defined.
  pub busiest_unique : (v : ℕ) → Busiest p v → busiest_of p ≡ v
  unfolding busiest_of below
  busiest_unique v b =
      let inside = b.station in
      first_where_law 0 (is_largest p) 0 p.stations v (omega arith) (omega arith) (largest_passes v b.largest)
      (λ u h. smaller_fails u v b.station (b.lowest u h))

  -- Document 01's promise, and that no lower-numbered station has as large a load, hold of the one that is defined; so there
  -- always is one.
  pub busiest_is : 0 < p.stations → Busiest p (busiest_of p)
  busiest_is some = given p.stations refl some
    where
      given : (n : ℕ) → n ≡ p.stations → 0 < n → Busiest p (busiest_of p)
      given zero e h = absurd (omega arith)
      given (suc n) e h =
          let x = top (load p) n in
          let there : Busiest p x.place =
          record {
            station = let inside = x.within in omega arith;
            largest = λ u g. x.largest u (omega arith);
            lowest = x.lowest;
          } in
          subst (λ v. Busiest p v) (sym (busiest_unique x.place there)) there
