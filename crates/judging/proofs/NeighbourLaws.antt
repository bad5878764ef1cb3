-- The least list, the last one and the next one, leg by leg, by a test of beginnings. It knows nothing of plans.
-- Assumes nothing.
use Prim.Native.Nat.{ℕ, zero, suc, ◌+◌, ◌-◌, ◌≤◌, ◌<◌}
use mathlib.Core.Path.{◌≡◌, refl, sym, ap, ◌∙◌, subst}
use mathlib.Core.Bool.{Bool, true}
use mathlib.Core.List.{List, [], ◌∷◌, ◌++◌, append-nil}
use mathlib.Core.Logic.{◌↔◌, ◌⊎◌, inl, inr, ⊎_elim, by_cases}
use native.Mathlib.Omega.{arith}
use native.Mathlib.Decide.{ℕ_discrete, dec_le}
use lib.ListN.{length, get_or, take, drop, length-append, take-append-drop}
use lib.Seq.{take-suc, take_all, take-take, take_at, get_or-take, get_or_at, append_snoc, length-take-le}
use Rattle.temporal.specs.Lists.{Before}
use Rattle.ways.specs.Prefix.{LeastOf, Later, NoneLater}
use Rattle.judging.specs.Legs.{FirstLegs, LastLegs, Follows}

-- ---- lists that begin alike

-- lists alike in their first k numbers are alike in fewer
alike_fewer : (j k : ℕ) (u w : List ℕ) → j ≤ k → take k u ≡ take k w → take j u ≡ take j w
alike_fewer j k u w less e = sym (take-take j k u less) ∙ ap (take j) e ∙ take-take j k w less

-- lists alike in their first k numbers have the same number at each place below k
alike_at : (j k : ℕ) (u w : List ℕ) → j < k → take k u ≡ take k w → get_or u j 0 ≡ get_or w j 0
alike_at j k u w less e = sym (get_or-take k u j 0 less) ∙ ap (λ l. get_or l j 0) e ∙ get_or-take k w j 0 less

-- ---- order and the first place where two lists differ

-- of two lists alike in k numbers the one with the smaller number next stands before the other
before_at : (k : ℕ) (u w : List ℕ) → take k u ≡ take k w → k < length u → get_or u k 0 < get_or w k 0 → Before u w
unfolding Before
before_at zero [] w e inside more = absurd (omega arith)
before_at zero (i ∷ u) [] e inside more = absurd (omega arith)
before_at zero (i ∷ u) (j ∷ w) e inside more = inl more
before_at (suc k) [] w e inside more = absurd (omega arith)
before_at (suc k) (i ∷ u) [] e inside more = absurd (omega arith)
before_at (suc k) (i ∷ u) (j ∷ w) e inside more =
    let rest : take k u ≡ take k w = cc in inr (cc, before_at k u w rest (omega arith) more)

-- u and w are alike in leg numbers, and u has the smaller number next
record Differ (u w : List ℕ) : Type 0 where
  leg : ℕ
  inside : leg < length u
  alike : take leg u ≡ take leg w
  less : get_or u leg 0 < get_or w leg 0

-- a list that stands before another is alike with it up to a smaller number
differ : (u w : List ℕ) → Before u w → Differ u w
unfolding Before
differ [] w b = absurd b
differ (i ∷ u) [] b = absurd b
differ (i ∷ u) (j ∷ w) b =
    ⊎_elim
    (λ (h : i < j). record { leg = 0; inside = omega arith; alike = refl; less = h })
    (λ (h : (i ≡ j) × Before u w).
    let d = differ u w h.1 in
    let first = h.0 in
    let rest = d.alike in
    let below = d.inside in
    record { leg = suc d.leg; inside = omega arith; alike = cc; less = d.less })
    b

-- a list that is another or stands before it, and is alike with it in k numbers, has no greater number next
at_most : (k : ℕ) (u w : List ℕ) → take k u ≡ take k w → (w ≡ u) ⊎ Before u w → get_or u k 0 ≤ get_or w k 0
at_most k u w e (inl same) = omega (arith, ap (λ l. get_or l k 0) same)
at_most k u w e (inr b) = go (differ u w b)
  where
    go : Differ u w → get_or u k 0 ≤ get_or w k 0
    go d =
        let less = d.less in
        by_cases (ℕ_discrete k d.leg)
        (λ same. rw same (omega arith))
        (λ other. by_cases (dec_le k d.leg)
        (λ low. omega (arith, alike_at k d.leg u w (omega arith) d.alike))
        (λ high. omega (arith, alike_at d.leg k u w (omega arith) e)))

-- where a and b are alike in k numbers and u stands before b, a has a smaller number than u first at no place below k
not_sooner : (a u b : List ℕ) (k : ℕ) → take k a ≡ take k b → (d : Differ a u) → Before u b → k ≤ d.leg
not_sooner a u b k e d c =
    let less = d.less in
    by_cases (dec_le k d.leg) (λ low. low) (λ high.
    let begin = alike_fewer d.leg k a b (omega arith) e in
    let same = alike_at d.leg k a b (omega arith) e in
    absurd (omega (arith, at_most d.leg u b (sym d.alike ∙ begin) (inr c))))

-- where a and b are alike in k numbers and a stands before u, u has a smaller number than b first at no place below k
not_sooner' : (a u b : List ℕ) (k : ℕ) → take k a ≡ take k b → Before a u → (d : Differ u b) → k ≤ d.leg
not_sooner' a u b k e c d =
    let less = d.less in
    by_cases (dec_le k d.leg) (λ low. low) (λ high.
    let begin = alike_fewer d.leg k a b (omega arith) e in
    let same = alike_at d.leg k a b (omega arith) e in
    absurd (omega (arith, at_most d.leg a u (begin ∙ sym d.alike) (inr c))))

-- a list that does not stand before another of its length is that one or stands behind it
not_before : (u w : List ℕ) → length u ≡ length w → (Before u w → ⊥) → (u ≡ w) ⊎ Before w u
unfolding Before
not_before [] [] e n = inl refl
not_before [] (j ∷ w) e n = absurd (omega arith)
not_before (i ∷ u) [] e n = absurd (omega arith)
not_before (i ∷ u) (j ∷ w) e n =
    by_cases (ℕ_discrete i j)
    (λ same. ⊎_elim (λ rest. inl (cc)) (λ b. inr (inr (sym same, b)))
    (not_before u w (omega arith) (λ b. n (inr (same, b)))))
    (λ other. by_cases (dec_le i j) (λ low. absurd (n (inl (omega arith)))) (λ high. inr (inl (omega arith))))

-- a test of beginnings: it passes the empty list, the beginnings of what it passes, and what it passes of fewer than h numbers can
-- be gone on with
module _ (t : List ℕ → Bool) (h : ℕ) (None-passes : t [] ≡ true)
    (front : (w : List ℕ) (i : ℕ) → t (w ++ i ∷ []) ≡ true → t w ≡ true)
    (onward : (w : List ℕ) → t w ≡ true → length w < h → (i : ℕ) × (t (w ++ i ∷ []) ≡ true)) where
  -- ---- what begins a list that passes, and what goes on to one

  -- what a list that passes begins with passes
  beginning : (q v : List ℕ) → t (q ++ v) ≡ true → t q ≡ true
  beginning q [] e = rw append-nil at e
  beginning q (i ∷ v) e = front q i (beginning (q ++ i ∷ []) v (rw append_snoc e))

  -- the first k numbers of a list that passes pass
  take_passes : (k : ℕ) (w : List ℕ) → t w ≡ true → t (take k w) ≡ true
  take_passes k w e = beginning (take k w) (drop k w) (rw take-append-drop e)

  -- a list that passes and has k numbers fewer than h begins a list of h numbers that passes
  completed : (k : ℕ) (q : List ℕ) → length q + k ≡ h → t q ≡ true
      → (v : List ℕ) × (length (q ++ v) ≡ h) × (t (q ++ v) ≡ true)
  completed zero q size e = ([], rw append-nil (omega arith), rw append-nil e)
  completed (suc k) q size e =
      let more = onward q e (omega arith) in
      let r = completed k (q ++ more.0 ∷ []) (omega (arith, length-append q (more.0 ∷ []))) more.1 in
      (more.0 ∷ r.0, rw append_snoc at r.1, rw append_snoc at r.2)

  -- a list of h numbers that passes, is alike with w in k numbers and has m next
  record Branch (w : List ℕ) (k m : ℕ) : Type 0 where
    list : List ℕ
    size : length list ≡ h
    passes : t list ≡ true
    alike : take k list ≡ take k w
    next : get_or list k 0 ≡ m

  -- there is one where m serves behind the first k numbers of w
  branch : (w : List ℕ) (k m : ℕ) → length w ≡ h → k < h → t (take k w ++ m ∷ []) ≡ true → Branch w k m
  branch w k m size inside e =
      let q = take k w in
      let long : length q ≡ k = length-take-le k w (omega arith) in
      let r = completed (h - suc k) (q ++ m ∷ []) (omega (arith, length-append q (m ∷ []))) e in
      record {
        list = q ++ m ∷ r.0;
        size = rw append_snoc at r.1;
        passes = rw append_snoc at r.2;
        alike = take_at q (m ∷ r.0) k long;
        next = get_or_at q m r.0 0 k long;
      }

  -- the next number of a list that passes serves behind the numbers with which it begins
  serves_next : (w u : List ℕ) (k : ℕ) → length u ≡ h → t u ≡ true → k < h → take k u ≡ take k w
      → t (take k w ++ get_or u k 0 ∷ []) ≡ true
  serves_next w u k size passes inside alike =
      let less : k < length u = omega arith in
      rw (← alike, ← take-suc u k 0) (take_passes (suc k) u passes)

  -- a list of h numbers of which the first n + 1 serve, where n + 1 is h, passes
  whole_passes : (w : List ℕ) (n : ℕ) → length w ≡ h → suc n ≡ h → t (take (suc n) w) ≡ true → t w ≡ true
  whole_passes w n size e passes = rw (take_all (suc n) w (omega arith)) at passes

  -- where the legs of w from i on are the first that serve, no list that passes has a smaller number first at i or later
  firsts_refute : (w u : List ℕ) (i : ℕ) → length u ≡ h → t u ≡ true → FirstLegs t h i w → (d : Differ u w) → i ≤ d.leg → ⊥
  firsts_refute w u i sized passes f d low =
      let inside = d.inside in
      let less = d.less in
      omega (
        arith,
        f.first d.leg low (omega arith) (get_or u d.leg 0)
            (serves_next w u d.leg sized passes (omega arith) d.alike),
      )

  -- where the legs of w from i on are the last that serve, no list that passes has a greater number first at i or later
  lasts_refute : (w u : List ℕ) (i : ℕ) → length w ≡ h → length u ≡ h → t u ≡ true → LastLegs t h i w → (d : Differ w u)
      → i ≤ d.leg
      → ⊥
  lasts_refute w u i size sized passes l d low =
      let inside = d.inside in
      let less = d.less in
      omega (
        arith,
        l.last d.leg low (omega arith) (get_or u d.leg 0)
            (serves_next w u d.leg sized passes (omega arith) (sym d.alike)),
      )

  -- ---- the least

  -- the legs of the least are the first that serve
  least_first : (w : List ℕ) → LeastOf t h w → FirstLegs t h 0 w
  least_first w l =
      record {
        serves = λ k low inside. take_passes (suc k) w l.passes;
        first = λ k low inside m e.
            let v = branch w k m l.size inside e in
            let next = v.next in
            omega (arith, at_most k w v.list (sym v.alike) (l.least v.list v.size v.passes));
      }

  -- a list whose legs are the first that serve is the least
  first_least : (w : List ℕ) → length w ≡ h → FirstLegs t h 0 w → LeastOf t h w
  first_least w size f =
      record {
        size = size;
        passes = go h refl;
        least = λ u sized passes. not_before u w (omega arith)
            (λ b. firsts_refute w u 0 sized passes f (differ u w b) (omega arith));
      }
    where
      go : (n : ℕ) → n ≡ h → t w ≡ true
      go zero e = rw (take_all 0 w (omega arith)) at None-passes
      go (suc n) e = whole_passes w n size e (f.serves n (omega arith) (omega arith))

  -- the least is the one whose legs are all the first that serve
  pub least_legs : (w : List ℕ) → length w ≡ h → LeastOf t h w ↔ FirstLegs t h 0 w
  least_legs w size = (least_first w, first_least w size)

  -- ---- the last

  -- the last is the one whose legs are all the last that serve
  pub last_legs : (w : List ℕ) → length w ≡ h → NoneLater t h w ↔ LastLegs t h 0 w
  last_legs w size = (
    λ n. record {
      last = λ k low inside m e. by_cases (dec_le m (get_or w k 0)) (λ less. less) (λ more.
          let v = branch w k m size inside e in
          let next = v.next in
          absurd (n v.list v.size v.passes
          (before_at k w v.list (sym v.alike) (omega arith) (omega arith))));
    },
    λ l u sized there b. lasts_refute w u 0 size sized there l (differ w u b) (omega arith),
  )

  -- ---- the next

  module _ (a b : List ℕ) (long-a : length a ≡ h) (long-b : length b ≡ h) where
    -- the next follows
    later_follows : Later t h a b → Follows t h a b
    later_follows l = go (differ a b l.after)
      where
        go : Differ a b → Follows t h a b
        go d =
            let leg = d.leg in
            let inside = d.inside in
            let less = d.less in
            record {
              leg = leg;
              inside = omega arith;
              alike = d.alike;
              later = d.less;
              serves = take_passes (suc leg) b l.passes;
              between = λ m more e.
                  let v = branch a leg m long-a (omega arith) e in
                  let next = v.next in
                  let behind = before_at leg a v.list (sym v.alike) d.inside (omega arith) in
                  omega (
                    arith,
                    at_most leg b v.list (sym (v.alike ∙ d.alike))
                        (l.least v.list v.size v.passes behind),
                  );
              lasts = record {
                last = λ k low within m e. by_cases (dec_le m (get_or a k 0)) (λ small. small) (λ more.
                    let v = branch a k m long-a within e in
                    let next = v.next in
                    let behind = before_at k a v.list (sym v.alike) (omega arith) (omega arith) in
                    let same = alike_at leg k v.list a (omega arith) v.alike in
                    let begin = alike_fewer leg k v.list a (omega arith) v.alike in
                    absurd (omega (
                      arith,
                      at_most leg b v.list (sym (begin ∙ d.alike))
                          (l.least v.list v.size v.passes behind),
                    )));
              };
              firsts = record {
                serves = λ k low within. take_passes (suc k) b l.passes;
                first = λ k low within m e.
                    let v = branch b k m long-b within e in
                    let next = v.next in
                    let same = alike_at leg k v.list b (omega arith) v.alike in
                    let begin = alike_fewer leg k v.list b (omega arith) v.alike in
                    let behind = before_at leg a v.list (d.alike ∙ sym begin) d.inside (omega arith) in
                    omega (
                      arith,
                      at_most k b v.list (sym v.alike)
                          (l.least v.list v.size v.passes behind),
                    );
              };
            }

    -- what follows passes
    follows_passes : Follows t h a b → t b ≡ true
    follows_passes f = go h refl
      where
        go : (n : ℕ) → n ≡ h → t b ≡ true
        go zero e = let inside = f.inside in absurd (omega arith)
        go (suc n) e =
            let inside = f.inside in
            whole_passes b n long-b e (by_cases (ℕ_discrete n f.leg)
            (λ same. rw same f.serves)
            (λ other. f.firsts.serves n (omega arith) (omega arith)))

    -- no list that passes stands between a list and the one that follows
    none_between : Follows t h a b → (u : List ℕ) → length u ≡ h → t u ≡ true → Before a u → Before u b → ⊥
    none_between f u sized passes c c' = go (differ a u c) (differ u b c')
      where
        here : (d : Differ a u) (d' : Differ u b) → d.leg ≡ f.leg → d'.leg ≡ f.leg → ⊥
        here d d' e e' =
            let alike : take f.leg a ≡ take f.leg u = subst (λ i. take i a ≡ take i u) e d.alike in
            let more : get_or a f.leg 0 < get_or u f.leg 0 = subst (λ i. get_or a i 0 < get_or u i 0) e d.less in
            let less : get_or u f.leg 0 < get_or b f.leg 0 = subst (λ i. get_or u i 0 < get_or b i 0) e' d'.less in
            omega (
              arith,
              f.between (get_or u f.leg 0) more
                  (serves_next a u f.leg sized passes f.inside (sym alike)),
            )

        go : Differ a u → Differ u b → ⊥
        go d d' =
            let low = not_sooner a u b f.leg f.alike d c' in
            let low' = not_sooner' a u b f.leg f.alike c d' in
            by_cases (ℕ_discrete d.leg f.leg)
            (λ e. by_cases (ℕ_discrete d'.leg f.leg) (here d d' e)
            (λ n. firsts_refute b u (suc f.leg) sized passes f.firsts d' (omega arith)))
            (λ n. lasts_refute a u (suc f.leg) long-a sized passes f.lasts d (omega arith))

    -- what follows is the next
    follows_later : Follows t h a b → Later t h a b
    follows_later f =
        let inside = f.inside in
        record {
          size = long-b;
          passes = follows_passes f;
          after = before_at f.leg a b f.alike (omega arith) f.later;
          least = λ u sized passes c. not_before u b (omega arith)
              (none_between f u sized passes c);
        }

  -- the next is the one that follows
  pub next_legs : (a b : List ℕ) → length a ≡ h → length b ≡ h → Later t h a b ↔ Follows t h a b
  next_legs a b long-a long-b = (later_follows a b long-a long-b, follows_later a b long-a long-b)
