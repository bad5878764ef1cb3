-- Where a record of a plan stands in the layered plan: positions up and down, and that they keep the order within a layer.
-- Assumes nothing.
use Prim.Native.Nat.{ℕ, ◌+◌, ◌-◌, ◌*◌, ◌/◌, ◌≤◌, ◌<◌}
use native.Mathlib.Omega.{arith}
use native.Mathlib.Decide.{dec_lt}
use mathlib.Core.Path.{◌≡◌, refl, sym, ◌∙◌}
use mathlib.Core.Bool.{Bool, true, false}
use mathlib.Core.List.{List}
use mathlib.Core.Logic.{by_cases}
use borrow.Author.Tests.{leb-true, leb-false, le-leb, lt-leb}
use lib.Dec.{leb}
use Rattle.temporal.specs.Lists.{below, first_where}
use Rattle.temporal.specs.Bytes.{contact_at, records}
use Rattle.lists.proofs.ListLaws.{FirstBelow, first_below}
use Rattle.layered.specs.Writing.{Sorted}
use Rattle.layered.specs.Layered.{slot_start, slot_at, shift, layer_of, down}

-- the records before position lo are in slots before u, the others are not
pub record Start (bs : List ℕ) (u lo : ℕ) : Type 0 where
  pub inside : lo ≤ records bs
  pub passed : (i : ℕ) → i < lo → (contact_at bs i).slot < u
  pub ahead : (i : ℕ) → lo ≤ i → i < records bs → u ≤ (contact_at bs i).slot

-- the layered position of position i in a layer
unfoldable pub up : List ℕ → Bool → ℕ → ℕ
up bs layer i = shift bs (contact_at bs i).slot layer + i

-- position i is one of those from lo to before hi
pub record Within (bs : List ℕ) (i lo hi : ℕ) : Type 0 where
  pub from : lo ≤ i
  pub to : i < hi
  pub end : hi ≤ records bs

-- what is known of the layered position q of position i in a layer
pub record Placed (bs : List ℕ) (q i : ℕ) (layer : Bool) : Type 0 where
  pub there : i < records bs
  pub below : q < 2 * records bs
  pub slot : slot_at bs q ≡ (contact_at bs i).slot
  pub which : layer_of bs q ≡ layer
  pub back : down bs q ≡ i
  pub upward : up bs layer i ≡ q

module _ (bs : List ℕ) where
  -- two such positions are the same
  pub start_once : (u u' lo lo' : ℕ) → u ≤ u' → Start bs u lo → Start bs u' lo' → lo ≤ lo'
  start_once u u' lo lo' h a b =
      by_cases (dec_lt lo' lo)
      (λ less.
      let most = a.inside in
      let low = a.passed lo' less in
      let high = b.ahead lo' (omega arith) (omega arith) in
      omega arith)
      (λ no. omega arith)

  module _ (rise : Sorted bs) where
    start_found : (u : ℕ) → Start bs u (slot_start bs u)
    unfolding slot_start
    start_found u = go (first_below (records bs) (λ i. leb u (contact_at bs i).slot) (records bs))
      where
        go : FirstBelow (records bs) (λ i. leb u (contact_at bs i).slot) (records bs)
            → Start bs u (first_where (records bs) (λ i. leb u (contact_at bs i).slot) (below (records bs)))
        go (FirstBelow.passes_nowhere e none) =
            rw e
            (record {
              inside = omega arith;
              passed = λ i h. leb-false u (contact_at bs i).slot (none i h);
              ahead = λ i low h. absurd (omega arith);
            })
        go (FirstBelow.passes_first lo e h here before) =
            rw e
            (record {
              inside = omega arith;
              passed = λ i less. leb-false u (contact_at bs i).slot (before i less);
              ahead = λ i low high.
                  let first = leb-true u (contact_at bs lo).slot here in
                  let rises = rise lo i low high in
                  omega arith;
            })

    -- a position that parts the records so is the first of the slot
    pub start_at : (u lo : ℕ) → Start bs u lo → slot_start bs u ≡ lo
    start_at u lo s =
        let low = start_once u u _ lo (omega arith) (start_found u) s in
        let high = start_once u u lo _ (omega arith) s (start_found u) in
        omega arith

    -- ---- one slot: its records stand from lo to before hi

    -- a record stands among those of its slot
    pub slot_has : (u i : ℕ) → i < records bs → (contact_at bs i).slot ≡ u → Within bs i (shift bs u false) (shift bs u true)
    unfolding shift
    slot_has u i h here =
        let first = start_found u in
        let last = start_found (u + 1) in
        record {
          from = by_cases (dec_lt i (slot_start bs u)) (λ less. absurd (omega (arith, first.passed i less))) (λ no. omega arith);
          to = by_cases (dec_lt i (slot_start bs (u + 1))) (λ less. less)
              (λ no. absurd (omega (arith, last.ahead i (omega arith) h)));
          end = last.inside;
        }

    -- and no other does
    pub slot_only : (u i : ℕ) → shift bs u false ≤ i → i < shift bs u true → (contact_at bs i).slot ≡ u
    unfolding shift
    slot_only u i low high =
        let last = start_found (u + 1) in
        let most = last.inside in
        let above = (start_found u).ahead i low (omega arith) in
        let less = last.passed i high in
        omega arith

    -- ---- up and down

    pub shift_inside : (u : ℕ) (layer : Bool) → shift bs u layer ≤ records bs
    unfolding shift
    shift_inside u false = (start_found u).inside
    shift_inside u true = (start_found (u + 1)).inside

    -- the two layers of a slot, by numbers: lo and hi, and q between twice the one and twice the other
    placed_by : (q : ℕ) (u : ℕ) → slot_at bs q ≡ u → (layer : Bool) → layer_of bs q ≡ layer → (i : ℕ) → i < records bs
        → (contact_at bs i).slot ≡ u → q ≡ shift bs u layer + i → Placed bs q i layer
    unfolding down up
    placed_by q u here layer which i there same e =
        record {
          there = there;
          below = omega (arith, shift_inside u layer);
          slot = here ∙ sym same;
          which = which;
          back = rw (here, which) (omega arith);
          upward = rw same (sym e);
        }

    half : (q u : ℕ) → 2 * shift bs u false ≤ q → q < 2 * shift bs u true → slot_at bs q ≡ u
    unfolding slot_at
    half q u low high = slot_only u (q / 2) (omega arith) (omega arith)

    lower : (q u : ℕ) → slot_at bs q ≡ u → q < shift bs u false + shift bs u true → layer_of bs q ≡ false
    unfolding layer_of
    lower q u here h = rw here (lt-leb (shift bs u false + shift bs u true) q h)

    upper : (q u : ℕ) → slot_at bs q ≡ u → shift bs u false + shift bs u true ≤ q → layer_of bs q ≡ true
    unfolding layer_of
    upper q u here h = rw here (le-leb (shift bs u false + shift bs u true) q h)

    -- the layered position of a position
    pub placed_up : (layer : Bool) (i : ℕ) → i < records bs → Placed bs (up bs layer i) i layer
    unfolding up
    placed_up false i h =
        let u = (contact_at bs i).slot in
        let w = slot_has u i h refl in
        let from = w.from in
        let to = w.to in
        let q = shift bs u false + i in
        let here = half q u (omega arith) (omega arith) in
        placed_by q u here false (lower q u here (omega arith)) i h refl refl
    placed_up true i h =
        let u = (contact_at bs i).slot in
        let w = slot_has u i h refl in
        let from = w.from in
        let to = w.to in
        let q = shift bs u true + i in
        let here = half q u (omega arith) (omega arith) in
        placed_by q u here true (upper q u here (omega arith)) i h refl refl

    -- the position of a layered position
    pub placed_down : (q : ℕ) → q < 2 * records bs → Placed bs q (down bs q) (layer_of bs q)
    unfolding slot_at
    placed_down q h =
        let u = slot_at bs q in
        let w = slot_has u (q / 2) (omega arith) refl in
        by_cases (dec_lt q (shift bs u false + shift bs u true)) (λ less. low less w) (λ no. high (omega arith) w)
      where
        u : ℕ
        u = slot_at bs q

        whole : (i : ℕ) (layer : Bool) → Placed bs q i layer → Placed bs q (down bs q) (layer_of bs q)
        whole i layer p = rw (p.back, p.which) p

        low : q < shift bs u false + shift bs u true → Within bs (q / 2) (shift bs u false) (shift bs u true)
            → Placed bs q (down bs q) (layer_of bs q)
        low less w =
            let from = w.from in
            let to = w.to in
            let end = w.end in
            let i = q - shift bs u false in
            whole i false
            (placed_by q u refl false (lower q u refl less) i (omega arith) (slot_only u i (omega arith) (omega arith)) (omega arith))

        high : shift bs u false + shift bs u true ≤ q → Within bs (q / 2) (shift bs u false) (shift bs u true)
            → Placed bs q (down bs q) (layer_of bs q)
        high more w =
            let from = w.from in
            let to = w.to in
            let end = w.end in
            let i = q - shift bs u true in
            whole i true
            (placed_by q u refl true (upper q u refl more) i (omega arith) (slot_only u i (omega arith) (omega arith)) (omega arith))

    -- ---- order

    shift_rises : (u u' : ℕ) → u ≤ u' → (layer : Bool) → shift bs u layer ≤ shift bs u' layer
    unfolding shift
    shift_rises u u' h false = start_once u u' _ _ h (start_found u) (start_found u')
    shift_rises u u' h true = start_once (u + 1) (u' + 1) _ _ (omega arith) (start_found (u + 1)) (start_found (u' + 1))

    -- in a layer the order is kept
    pub up_rises : (layer : Bool) (i j : ℕ) → i < j → j < records bs → up bs layer i < up bs layer j
    unfolding up
    up_rises layer i j less h =
        let rises = rise i j (omega arith) h in
        let more = shift_rises (contact_at bs i).slot (contact_at bs j).slot rises layer in
        omega arith
