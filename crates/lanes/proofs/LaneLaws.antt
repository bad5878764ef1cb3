-- Laws of entries that hold several counts, over every width w and number k of lanes. Assumes nothing.
use Prim.Native.Nat.{ℕ, zero, suc, ◌+◌, ◌-◌, ◌*◌, ◌/◌, ◌%◌, ◌^◌, ◌≤◌, ◌<◌, zero-le, suc-le-suc}
use mathlib.Core.Path.{◌≡◌, refl, sym, ap, ap₂, subst, ◌∙◌}
use mathlib.Core.Bool.{Bool, true, false, cond}
use native.Mathlib.Omega.{arith}
use native.Mathlib.Nat.{le_of_suc-le-suc, not-suc-le-zero, le_trans, add-mul, mul_assoc, mul-zero, mul-one, mul-suc, mul-add}
use native.Mathlib.Nat.{add_comm, div-one, mod-le, mod-lt, mod-eq_of_lt, div-mul-le_self, mul-le-mul_right}
use native.Mathlib.Nat.{le-mul_of_pos_right, div-add-mod', add-mod, zero-mul, mul-le-mul_left}
use lib.Arith.{digits_lt, digits_div, digits_mod}
use lib.Dec.{eqb, eqb-zero-suc, eqb-suc-zero, eqb-suc-suc}
use lib.Pow.{pow_pos, pow-add, shr-shr, shl_exact}
use Rattle.lanes.specs.Lane.{lane, without_lane, packed, ones, Within, Fits, alone, apart, lanes_of, width_of}

-- ---- sums of packed counts

-- counts that agree are packed alike
pub packed_ext : (w k : ℕ) {f g : ℕ → ℕ} → ((l : ℕ) → l < k → f l ≡ g l) → packed w k f ≡ packed w k g
unfolding packed
packed_ext w zero e = refl
packed_ext w (suc k) e =
    ap₂ (λ a b. a * 2 ^ w + b) (packed_ext w k (λ l h. e (suc l) (suc-le-suc h))) (e 0 (suc-le-suc zero-le))

-- counts of 0 are packed as 0
pub packed_none : (w k : ℕ) {f : ℕ → ℕ} → ((l : ℕ) → l < k → f l ≡ 0) → packed w k f ≡ 0
unfolding packed
packed_none w zero e = refl
packed_none w (suc k) e =
    ap₂ (λ a b. a * 2 ^ w + b) (packed_none w k (λ l h. e (suc l) (suc-le-suc h))) (e 0 (suc-le-suc zero-le)) ∙ omega arith

-- adding two entries adds all their lanes
pub packed_plus : (w k : ℕ) (f g : ℕ → ℕ) → packed w k f + packed w k g ≡ packed w k (λ l. f l + g l)
unfolding packed
packed_plus w zero f g = refl
packed_plus w (suc k) f g =
    let more = ap (λ n. n * 2 ^ w) (packed_plus w k (λ l. f (suc l)) (λ l. g (suc l))) in
    omega (arith, add-mul (packed w k (λ l. f (suc l))) (packed w k (λ l. g (suc l))) (2 ^ w))

-- an entry less another is packed lane by lane
pub packed_minus : (w k : ℕ) (f g : ℕ → ℕ) → ((l : ℕ) → l < k → f l ≤ g l)
    → packed w k g - packed w k f ≡ packed w k (λ l. g l - f l)
packed_minus w k f g less =
    let sum = packed_plus w k f (λ l. g l - f l) in
    let same : packed w k (λ l. f l + (g l - f l)) ≡ packed w k g = packed_ext w k (λ l h. let q = less l h in omega arith) in
    omega arith

-- a count in every lane is the count times 1 in every lane
pub packed_same : (w k c : ℕ) → packed w k (λ l. c) ≡ c * ones w k
unfolding packed ones
packed_same w zero c = sym (mul-zero c)
packed_same w (suc k) c =
    let more = ap (λ n. n * 2 ^ w) (packed_same w k c) in
    omega (arith, mul_assoc c (ones w k) (2 ^ w), mul-add c (ones w k * 2 ^ w) 1)

-- an entry of 0 holds counts of 0 alone
pub packed_zero : (w k : ℕ) (f : ℕ → ℕ) → packed w k f ≡ 0 → (l : ℕ) → l < k → f l ≡ 0
unfolding packed
packed_zero w zero f e l h = absurd (not-suc-le-zero h)
packed_zero w (suc k) f e zero h = omega arith
packed_zero w (suc k) f e (suc l) h =
    let few = le-mul_of_pos_right (packed w k (λ l. f (suc l))) (pow_pos w) in
    packed_zero w k (λ l. f (suc l)) (omega arith) l (le_of_suc-le-suc h)

-- ---- a lane of an entry

-- the lowest lane
lane_low : (w q : ℕ) {r : ℕ} → r < 2 ^ w → lane w (q * 2 ^ w + r) 0 ≡ r
unfolding lane
lane_low w q {r} h = rw (mul-zero w) (ap (λ n. n % 2 ^ w) (div-one (q * 2 ^ w + r)) ∙ digits_mod q h)

-- 2^w times the place of lane l is the place of the next
next_place : (w l : ℕ) → 2 ^ (w * suc l) ≡ 2 ^ (w * l) * 2 ^ w
next_place w l = ap (λ n. 2 ^ n) (mul-suc w l) ∙ pow-add 2 (w * l) w

-- another lane is a lane of the entry without the lowest
lane_high : (w q l : ℕ) {r : ℕ} → r < 2 ^ w → lane w (q * 2 ^ w + r) (suc l) ≡ lane w q l
unfolding lane
lane_high w q l {r} h =
    ap (λ n. n % 2 ^ w)
    (ap (λ n. (q * 2 ^ w + r) / 2 ^ n) (mul-suc w l ∙ add_comm (w * l) w)
    ∙ sym (shr-shr (q * 2 ^ w + r) w (w * l)) ∙ ap (λ n. n / 2 ^ (w * l)) (digits_div q h))

-- a lane at its place is part of the entry
pub lane_part : (w x l : ℕ) → lane w x l * 2 ^ (w * l) ≤ x
unfolding lane
lane_part w x l =
    le_trans (mul-le-mul_right (2 ^ (w * l)) (mod-le (x / 2 ^ (w * l)) (2 ^ w))) (div-mul-le_self x (2 ^ (w * l)))

-- a lane has w bits
pub lane_below : (w x l : ℕ) → lane w x l < 2 ^ w
unfolding lane
lane_below w x l = mod-lt (x / 2 ^ (w * l)) (pow_pos w)

-- the one lane of an entry is the entry
pub lane_alone : (w x : ℕ) → x < 2 ^ w → lane w x 0 ≡ x
lane_alone w x h = let same : 0 * 2 ^ w + x ≡ x = omega arith in rw same at (lane_low w 0 h)

-- without its lowest lane an entry has the others
without_low : (w q : ℕ) {r : ℕ} → r < 2 ^ w → without_lane w (q * 2 ^ w + r) 0 ≡ q * 2 ^ w
unfolding without_lane
without_low w q {r} h = rw (lane_low w q h, mul-zero w) (omega arith)

-- another lane is cleared in the entry without the lowest
without_high : (w q l : ℕ) {r : ℕ} → r < 2 ^ w → without_lane w (q * 2 ^ w + r) (suc l) ≡ without_lane w q l * 2 ^ w + r
unfolding without_lane
without_high w q l {r} h =
    rw (lane_high w q l h, next_place w l)
    (let part = lane_part w q l in
    let rest : q - lane w q l * 2 ^ (w * l) + lane w q l * 2 ^ (w * l) ≡ q = omega arith in
    let wide = ap (λ n. n * 2 ^ w) rest in
    omega (
      arith,
      add-mul (q - lane w q l * 2 ^ (w * l)) (lane w q l * 2 ^ (w * l)) (2 ^ w),
      mul_assoc (lane w q l) (2 ^ (w * l)) (2 ^ w),
    ))

-- ---- a lane of packed counts

-- counts that fit make an entry of w × k bits
pub packed_below : (w k : ℕ) {f : ℕ → ℕ} → Within w k f → packed w k f < 2 ^ (w * k)
unfolding packed
packed_below w zero fit = pow_pos (w * 0)
packed_below w (suc k) fit =
    rw (next_place w k) (digits_lt (packed_below w k (λ l h. fit (suc l) (suc-le-suc h))) (fit 0 (suc-le-suc zero-le)))

-- a lane of packed counts is the count
pub lane_packed : (w k : ℕ) {f : ℕ → ℕ} → Within w k f → (l : ℕ) → l < k → lane w (packed w k f) l ≡ f l
unfolding packed
lane_packed w zero fit l h = absurd (not-suc-le-zero h)
lane_packed w (suc k) {f} fit zero h = lane_low w (packed w k (λ l. f (suc l))) (fit 0 h)
lane_packed w (suc k) {f} fit (suc l) h =
    lane_high w (packed w k (λ l. f (suc l))) l (fit 0 (suc-le-suc zero-le))
    ∙ lane_packed w k {f = λ l. f (suc l)} (λ m less. fit (suc m) (suc-le-suc less)) l (le_of_suc-le-suc h)

-- clearing a lane packs the counts with 0 there
pub clear_packed : (w k : ℕ) {f : ℕ → ℕ} → Within w k f → (l : ℕ) → l < k
    → without_lane w (packed w k f) l ≡ packed w k (λ m. cond (eqb m l) 0 (f m))
unfolding packed
clear_packed w zero fit l h = absurd (not-suc-le-zero h)
clear_packed w (suc k) {f} fit zero h =
    let rest : packed w k (λ l. f (suc l)) ≡ packed w k (λ m. cond (eqb (suc m) 0) 0 (f (suc m))) =
    packed_ext w k (λ m less. rw (eqb-suc-zero m)) in
    without_low w (packed w k (λ l. f (suc l))) (fit 0 h) ∙ ap (λ n. n * 2 ^ w) rest ∙ omega arith
clear_packed w (suc k) {f} fit (suc l) h =
    let rest : packed w k (λ m. cond (eqb m l) 0 (f (suc m))) ≡ packed w k (λ m. cond (eqb (suc m) (suc l)) 0 (f (suc m))) =
    packed_ext w k (λ m less. rw (eqb-suc-suc m l)) in
    let first : f 0 ≡ cond (eqb 0 (suc l)) 0 (f 0) = rw (eqb-zero-suc l) in
    without_high w (packed w k (λ l. f (suc l))) l (fit 0 (suc-le-suc zero-le))
    ∙ ap₂ (λ m n. m * 2 ^ w + n)
    (clear_packed w k {f = λ l. f (suc l)} (λ m less. fit (suc m) (suc-le-suc less)) l (le_of_suc-le-suc h) ∙ rest) first

-- a lane of 0 fits
pub cleared_within : (w k l : ℕ) {f : ℕ → ℕ} → Within w k f → Within w k (λ m. cond (eqb m l) 0 (f m))
cleared_within w k l {f} fit m h = below (eqb m l)
  where
    below : (b : Bool) → cond b 0 (f m) < 2 ^ w
    below true = pow_pos w
    below false = fit m h

-- clearing a lane keeps what clearing needs
pub cleared_fits : (w k l : ℕ) {f : ℕ → ℕ} → Fits w k f → Fits w k (λ m. cond (eqb m l) 0 (f m))
cleared_fits w k l (alone one) = alone one
cleared_fits w k l (apart fit) = apart (cleared_within w k l fit)

-- ---- entries that are known modulo 2^64

-- adding two entries adds all their lanes
pub plus_mod : (w k : ℕ) (f g : ℕ → ℕ)
    → (packed w k f % 2 ^ 64 + packed w k g % 2 ^ 64) % 2 ^ 64 ≡ packed w k (λ l. f l + g l) % 2 ^ 64
plus_mod w k f g = sym (add-mod (packed w k f) (packed w k g) (2 ^ 64)) ∙ ap (λ n. n % 2 ^ 64) (packed_plus w k f g)

-- counts that fit make an entry below 2^64
pub packed_whole : (w k : ℕ) {f : ℕ → ℕ} → w * k ≡ 64 → Within w k f → packed w k f % 2 ^ 64 ≡ packed w k f
packed_whole w k {f} full fit = mod-eq_of_lt (subst (λ n. packed w k f < 2 ^ n) full (packed_below w k fit))

-- a lane whose count fits is the count
pub lane_mod : (w k : ℕ) {f : ℕ → ℕ} → w * k ≡ 64 → Fits w k f → (l : ℕ) → l < k → f l < 2 ^ w
    → lane w (packed w k f % 2 ^ 64) l ≡ f l
lane_mod w k full (apart fit) l h small = ap (λ x. lane w x l) (packed_whole w k full fit) ∙ lane_packed w k fit l h
lane_mod w k {f} full (alone one) l h small =
    let fit : Within w k f = λ m less. let same : l ≡ m = omega arith in subst (λ n. f n < 2 ^ w) same small in
    ap (λ x. lane w x l) (packed_whole w k full fit) ∙ lane_packed w k fit l h

-- the one lane cleared leaves 0
clear_alone : (w : ℕ) (f : ℕ → ℕ) → w ≡ 64
    → without_lane w (packed w 1 f % 2 ^ 64) 0 ≡ packed w 1 (λ m. cond (eqb m 0) 0 (f m)) % 2 ^ 64
unfolding without_lane packed
clear_alone w f wide =
    let small : packed w 1 f % 2 ^ 64 < 2 ^ w = subst (λ n. packed w 1 f % 2 ^ 64 < 2 ^ n) (sym wide) (mod-lt _ (pow_pos 64)) in
    rw (lane_alone w (packed w 1 f % 2 ^ 64) small, mul-zero w) (omega arith)

-- clearing a lane packs the counts with 0 there
pub clear_mod : (w k : ℕ) {f : ℕ → ℕ} → w * k ≡ 64 → Fits w k f → (l : ℕ) → l < k
    → without_lane w (packed w k f % 2 ^ 64) l ≡ packed w k (λ m. cond (eqb m l) 0 (f m)) % 2 ^ 64
clear_mod w k {f} full (apart fit) l h =
    ap (λ x. without_lane w x l) (packed_whole w k full fit) ∙ clear_packed w k fit l h
    ∙ sym (packed_whole w k full (cleared_within w k l fit))
clear_mod w k {f} full (alone one) l h =
    let none : l ≡ 0 = omega arith in
    let wide : w ≡ 64 = sym (mul-one w) ∙ ap (λ n. w * n) (sym one) ∙ full in
    rw (one, none) (clear_alone w f wide)

-- ---- an entry of 1, 2, 4 or 8 lanes

-- 1 in each of 1, 2, 4 and 8 lanes
pub ones_1 : ones 64 1 ≡ 1
unfolding ones packed
ones_1 = refl

pub ones_2 : ones 32 2 ≡ 4294967297
unfolding ones packed
ones_2 = refl

pub ones_4 : ones 16 4 ≡ 281479271743489
unfolding ones packed
ones_4 = refl

pub ones_8 : ones 8 8 ≡ 72340172838076673
unfolding ones packed
ones_8 = refl

-- a count in every lane, less an entry of no larger counts
pub same_minus : (w k c : ℕ) (f : ℕ → ℕ) → ((l : ℕ) → l < k → f l ≤ c) → c * ones w k - packed w k f ≡ packed w k (λ l. c - f l)
same_minus w k c f less = ap (λ n. n - packed w k f) (sym (packed_same w k c)) ∙ packed_minus w k f (λ l. c) less

-- the lanes fill the entry
pub lanes_fill : (s : ℕ) → s ≤ 3 → width_of s * lanes_of s ≡ 64
unfolding width_of lanes_of
lanes_fill zero h = refl
lanes_fill (suc zero) h = refl
lanes_fill (suc (suc zero)) h = refl
lanes_fill (suc (suc (suc zero))) h = refl
lanes_fill (suc (suc (suc (suc s)))) h = absurd (omega arith)

-- there are as many as 1 shifted by s
pub lanes_shift : (s : ℕ) → s ≤ 3 → 1 * 2 ^ s % 2 ^ 64 ≡ lanes_of s
unfolding lanes_of
lanes_shift s h = shl_exact 1 s 64 (suc-le-suc (suc-le-suc zero-le)) (omega arith) ∙ omega arith

-- there is a lane
pub lanes_some : (s : ℕ) → 0 < lanes_of s
unfolding lanes_of
lanes_some s = pow_pos s

-- a lane has a bit
pub width_some : (w k : ℕ) → w * k ≡ 64 → 0 < w
width_some zero k full = absurd (omega (arith, zero-mul k))
width_some (suc w) k full = suc-le-suc zero-le

-- each lane lies in the entry
pub lane_inside : (w k l : ℕ) → w * k ≡ 64 → l < k → w * l + w ≤ 64
lane_inside w k l full h = omega (arith, mul-le-mul_left w h, mul-suc w l)

-- what reading and clearing a lane ask
pub lane_asked : (w k l : ℕ) → w * k ≡ 64 → l < k → (0 < w) × (w * l + w ≤ 64)
lane_asked w k l full h = (width_some w k full, lane_inside w k l full h)

-- ---- a station of a block: its entry and its lane

module _ (k : ℕ) where
  -- a station is given by its entry and its lane
  pub station_split : (j : ℕ) → j / k * k + j % k ≡ j
  station_split j = div-add-mod' j k

  -- the lane is one of the entry's
  pub station_lane_below : (j : ℕ) → 0 < k → j % k < k
  station_lane_below j some = mod-lt j some

  module _ (e l : ℕ) (h : l < k) where
    -- an entry's lane is a station of the block
    pub station_below : (block : ℕ) → e < block → e * k + l < block * k
    station_below block inside = digits_lt inside h

    -- its entry
    pub station_entry : (e * k + l) / k ≡ e
    station_entry = digits_div e h

    -- its lane
    pub station_lane : (e * k + l) % k ≡ l
    station_lane = digits_mod e h
