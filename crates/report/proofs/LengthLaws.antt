-- How long the load program's texts can be: within its limits at most 697 bytes. Assumes nothing.
use Prim.Native.Nat.{ℕ, zero, suc, ◌+◌, ◌-◌, ◌*◌, ◌^◌, ◌<◌, ◌≤◌}
use native.Mathlib.Omega.{arith}
use native.Mathlib.Decide.{dec_le}
use mathlib.Core.Path.{◌≡◌, refl}
use mathlib.Core.Bool.{Bool, true, false, not, ◌&&◌, cond}
use mathlib.Core.List.{List, flat_map}
use mathlib.Core.Logic.{by_cases}
use lib.Dec.{eqb, ltb, lit<}
use lib.ListN.{length, length-append}
use borrow.Author.Tests.{ltb-false}
use Rattle.temporal.specs.Lists.{from, below, select, any}
use Rattle.temporal.specs.Plan.{Plan}
use Rattle.temporal.specs.Load.{Ends, ends_below, through_of, is_pair_of, pairs_below, partial_pairs, pairs, load}
use Rattle.lists.proofs.ListLaws.{length_select, mem_below, any_false}
use Rattle.counting.proofs.SumLaws.{sum_less}
use Rattle.counting.proofs.ExactSum.{load_at_most}
use Rattle.text.specs.Decimal.{decimal}
use Rattle.text.proofs.DecimalLaws.{decimal_short}
use Rattle.text.specs.Field.{ascii, space, line_feed}
use Rattle.text.proofs.FieldLaws.{fields_length, labelled_length}
use Rattle.report.specs.Report.{heading, line, loads_text}

-- ---- the pairs of a station

-- whether the ends of a pair are two different stations
unfoldable differs : Ends → Bool
differs e = not (eqb e.source e.destination)

-- up to 32 stations have at most 992 ordered pairs of two different ones
few_differ : any (λ n. ltb 992 (length (select differs (ends_below n n)))) (below 33) ≡ false
unfolding differs any below from select ends_below flat_map
few_differ = refl

pub few_pairs : (p : Plan) (v : ℕ) → p.stations ≤ 32 → pairs p v ≤ 992
unfolding partial_pairs pairs_below differs
few_pairs p v h =
    let less : length (select (is_pair_of p v) (ends_below p.stations p.stations)) ≤ length (select differs (ends_below p.stations p.stations)) =
    (rw (length_select (is_pair_of p v) (ends_below p.stations p.stations), length_select differs (ends_below p.stations p.stations))
    (sum_less _ _ (ends_below p.stations p.stations) (λ e. at_most (differs e) (ltb 0 (through_of p v e))))) in
    omega (
      arith,
      less,
      ltb-false 992 (length (select differs (ends_below p.stations p.stations)))
          ((any_false _ (below 33)).0 few_differ p.stations ((mem_below 33).1 (omega arith))),
    )
  where
    at_most : (a b : Bool) → cond (a && b) 1 0 ≤ cond a 1 0
    at_most true true = omega arith
    at_most true false = omega arith
    at_most false b = omega arith

pub small_load : (p : Plan) (v : ℕ) → p.stations ≤ 32 → load p v < 10 ^ 13
small_load p v h = omega (arith, load_at_most p p.stations v, few_pairs p v h)

-- ---- lines

line_length : (v p l : ℕ) → length (line v p l) ≡ length (decimal v) + length (decimal p) + length (decimal l) + 3
unfolding line
line_length v p l = omega (arith, fields_length v space p space l line_feed)

module _ (p : Plan) (few : p.stations ≤ 32) where
  abbrev line_at : ℕ → List ℕ
  line_at v = line v (pairs p v) (load p v)

  -- a line has at most 21 bytes, and that of a station below 10 one less
  line_short : (v k : ℕ) → 1 ≤ k → v < 10 ^ k → length (line_at v) ≤ k + 19
  line_short v k some h =
      omega (
        arith,
        line_length v (pairs p v) (load p v),
        decimal_short v k some h,
        decimal_short (pairs p v) 3 (lit< tt) (omega (arith, few_pairs p v few)),
        decimal_short (load p v) 13 (lit< tt) (small_load p v few),
      )

  -- the lines of k stations from i on, d of which are below 10
  lines_short :
      (d k i : ℕ) → d ≤ k → d ≤ 10 - i → i + k ≤ 32 → length (flat_map line_at (from i k)) + d ≤ 21 * k
  unfolding from flat_map
  lines_short d zero i a b c = omega arith
  lines_short zero (suc k) i a b c =
      omega (
        arith,
        length-append (line_at i) (flat_map line_at (from (suc i) k)),
        line_short i 2 (lit< tt) (omega arith),
        lines_short zero k (suc i) (omega arith) (omega arith) (omega arith),
      )
  lines_short (suc d) (suc k) i a b c =
      omega (
        arith,
        length-append (line_at i) (flat_map line_at (from (suc i) k)),
        line_short i 1 (lit< tt) (omega arith),
        lines_short d k (suc i) (omega arith) (omega arith) (omega arith),
      )

  all_lines_short : length (flat_map line_at (below p.stations)) ≤ 662
  unfolding below
  all_lines_short =
      by_cases (dec_le p.stations 10)
      (λ h. omega (arith, lines_short p.stations p.stations 0 (omega arith) (omega arith) (omega arith)))
      (λ h. omega (arith, lines_short 10 p.stations 0 (omega arith) (omega arith) (omega arith)))

heading_length : (n t m : ℕ) → length (heading n t m) ≡ length (decimal n) + length (decimal t) + length (decimal m) + 27
unfolding heading
heading_length n t m = omega (arith, labelled_length (ascii "stations ") n (ascii " slots ") t (ascii " contacts ") m line_feed)

-- The longest text: 35 bytes of the first line, 10 lines of 20 and 22 of 21.
pub text_length : (p : Plan) → p.stations ≤ 32 → p.slots ≤ 63 → length p.contacts ≤ 1024 → length (loads_text p) ≤ 697
unfolding loads_text
text_length p a b c =
    omega (
      arith,
      length-append (heading p.stations p.slots (length p.contacts))
          (flat_map (λ v. line v (pairs p v) (load p v)) (below p.stations)),
      heading_length p.stations p.slots (length p.contacts),
      decimal_short p.stations 2 (lit< tt) (omega arith),
      decimal_short p.slots 2 (lit< tt) (omega arith),
      decimal_short (length p.contacts) 4 (lit< tt) (omega arith),
      all_lines_short p a,
    )
