-- Keys: which of two is taken, and bounds. Assumes nothing.
use Rattle.std.proofs.Common.{◌≡◌, ℕ, ◌+◌, ◌*◌, ◌%◌, ◌^◌, ◌<◌, ◌≤◌, sym, ap, ◌∙◌, mod-eq_of_lt, arith, eq-eqb, ne_eqb}
use lib.Arith.{digits_div, digits_mod}
use lib.Bits.{or_add_and, and_le_l, and_comm}
use Rattle.widths.specs.Key.{key_of, merged_key, sent_key, widened}

module _ (h c l d : ℕ) (few : c < 70368744177664) (small : d < 70368744177664) where
  -- fewer hops take the place of the key
  pub merged_fewer : l < h → merged_key (key_of h c) (key_of l d) ≡ key_of l d
  unfolding merged_key key_of
  merged_fewer less =
      rw (digits_div h few, digits_div l small, ne_eqb h l (omega arith)) (omega arith)

  -- as many hops add the count
  pub merged_equal : l ≡ h → h ≤ 65535 → c + d < 70368744177664 → merged_key (key_of h c) (key_of l d) ≡ key_of h (c + d)
  unfolding merged_key key_of
  merged_equal same most fits =
      rw (digits_div h few, digits_div l small, eq-eqb h l (sym same), digits_mod l small)
      (mod-eq_of_lt (omega arith) ∙ omega arith)

  -- more hops leave the key
  pub merged_more : h < l → merged_key (key_of h c) (key_of l d) ≡ key_of h c
  unfolding merged_key key_of
  merged_more more =
      rw (digits_div h few, digits_div l small, ne_eqb h l (omega arith)) (omega arith)

-- over one hop more
pub sent_key_law : (a h c : ℕ) → h ≤ 65535 → c < 70368744177664 → sent_key a (key_of h c) ≡ merged_key a (key_of (h + 1) c)
unfolding sent_key key_of
sent_key_law a h c most small =
    let fits : h * 70368744177664 + c + 70368744177664 < 2 ^ 64 = omega arith in
    let same : h * 70368744177664 + c + 70368744177664 ≡ (h + 1) * 70368744177664 + c = omega arith in
    ap (merged_key a) (mod-eq_of_lt fits ∙ same)

-- a bound does not fall
pub widened_more : (a b : ℕ) → a ≤ widened a b
unfolding widened
widened_more a b =
    let x = b * 2 ^ 18 % 2 ^ 64 in
    omega (arith, or_add_and a x, and_comm a x, and_le_l x a)

-- and is not below the count
pub widened_count : (a h c : ℕ) → c < 70368744177664 → h ≤ 65535 → c * 262144 ≤ widened a (key_of h c)
unfolding widened key_of
widened_count a h c small most =
    let x = (h * 70368744177664 + c) * 2 ^ 18 % 2 ^ 64 in
    let same : (h * 70368744177664 + c) * 2 ^ 18 ≡ h * 2 ^ 64 + c * 262144 = omega arith in
    let low : x ≡ c * 262144 = ap (λ y. y % 2 ^ 64) same ∙ digits_mod h (omega arith) in
    omega (arith, or_add_and a x, and_le_l a x, low)
