-- A buffer of positions: what finding a position behind its first entries leaves, the first walk, the next prefix, and
-- the member of the complete list with which it begins.
-- Assumes nothing.
use Prim.Native.Nat.{ℕ, suc, ◌+◌, ◌-◌, ◌*◌, ◌≤◌, ◌<◌}
use mathlib.Core.Path.{◌≡◌, refl, sym, ap, ◌∙◌, subst}
use mathlib.Core.Bool.{Bool, true, false, cond}
use mathlib.Core.List.Memᴰ
use mathlib.Core.List.{List, [], ◌∷◌, ◌++◌, append_assoc, Memᴰ}
use mathlib.Core.Logic.{◌⊎◌, inl, inr, ◌↔◌}
use mathlib.Core.Option.{Option, none, some, bind, bind-eq-some_iff}
use native.Mathlib.Omega.{arith}
use native.Mathlib.Numerals.{add-one}
use borrow.Author.Tests.{lt-ltb, le-ltb}
use lib.Dec.{ltb, eqb}
use lib.ListN.{length, get_or, set, take, drop, length-append, length-set, take-append-drop}
use lib.Seq.{set_split, set_at, take_at, drop-cons, take-suc, take-suc-set, drop-set-lt, drop-drop, length-take-le}
use Rattle.temporal.specs.Lists.{Rising, Before}
use Rattle.temporal.specs.Plan.{Plan, Appearance, start}
use Rattle.temporal.specs.Walk.{step, holds, is_at}
use Rattle.temporal.specs.Bytes.{records}
use Rattle.temporal.specs.Outcome.{over}
use Rattle.temporal.specs.Cursor.{index_in}
use Rattle.lists.proofs.ListLaws.{not_both, not_true_false, true_or_false, mem_get_d_law}
use Rattle.lists.proofs.OptionLaws.{holds_inv}
use Rattle.walks.proofs.PlanLaws.{contacts_length}
use Rattle.walks.proofs.Adequacy.{complete_list_rises}
use Rattle.ways.specs.declared.Pair.{Pair}
use Rattle.ways.specs.Home.{home_from, Table}
use Rattle.ways.specs.Prefix.{end_after, LeastOf, Later, Advanced}
use Rattle.ways.specs.Found.{terms_in, plan_in, list_in, begins, serves_at, found_at, Placed, put_at, is_offered}
use Rattle.ways.specs.Found.{Listable, Stepped}
use Rattle.ways.proofs.OrderLaws.{first_place, next_place, last_place, index_inv, index_some}
use Rattle.ways.proofs.SearchLaws.{FirstAt, first_some, first_none, least_longer, later_here, later_behind}
use Rattle.ways.proofs.SearchLaws.{none_behind}
use Rattle.ways.proofs.PrefixLaws.{shifted, step_heard, completes_inv, completes_nil, completes_snoc}
use Rattle.ways.proofs.PrefixLaws.{hops_within}
use Rattle.ways.proofs.PrefixLaws.{completes_rise, completes_front, completes_onward, completes_bounded, completes_walk}
use Rattle.ways.proofs.PrefixLaws.{mem_complete}
use Rattle.ways.proofs.PrefixLaws.{ends_end}

-- ---- entries of a buffer

module _ (b : List ℕ) (k : ℕ) (inside : k < length b) where
  -- one entry more
  pub take_more : take (suc k) b ≡ take k b ++ get_or b k 0 ∷ []
  take_more = take-suc b k 0 inside

  -- an entry written behind the first k
  set_over : (i : ℕ) → set b k i ≡ over (take k b ++ i ∷ []) b
  unfolding over
  set_over i =
      let size : length (take k b ++ i ∷ []) ≡ suc k =
      length-append (take k b) (i ∷ []) ∙ omega (arith, length-take-le k b (omega arith)) in
      set_split b k i inside ∙ sym (rw size (append_assoc (take k b) (i ∷ []) (drop (suc k) b)))

  -- an entry written behind k others
  set_behind : (q : List ℕ) (i : ℕ) → length q ≡ k → set (over q b) k i ≡ over (q ++ i ∷ []) b
  unfolding over
  set_behind q i size =
      let more : length (q ++ i ∷ []) ≡ suc k = length-append q (i ∷ []) ∙ omega arith in
      ap (λ j. set (q ++ drop j b) k i) size
      ∙ ap (λ r. set (q ++ r) k i) (drop-cons b k 0 inside)
      ∙ set_at q (get_or b k 0) (drop (suc k) b) i k size
      ∙ sym (rw more (append_assoc q (i ∷ []) (drop (suc k) b)))

-- the first entries are what was written
over_take : (q b : List ℕ) (k : ℕ) → length q ≡ k → take k (over q b) ≡ q
unfolding over
over_take q b k size = take_at q _ k size

-- ---- what was put

module _ {r : Bool} {new : List ℕ} (k : ℕ) (b : List ℕ) where
  -- a true answer comes with a position
  pub put_true : (o : Option ℕ) → ◌≡◌ {A = Placed} (record { answer = r; buffer = new }) (put_at k b o) → r ≡ true
      → (i : ℕ) × (o ≡ some i) × (new ≡ set b k i)
  unfolding put_at
  put_true none e h = absurd (not_both h (ap (λ (x : Placed). x.answer) e))
  put_true (some i) e h = (i, refl, ap (λ (x : Placed). x.buffer) e)

  -- a false one leaves the buffer
  pub put_false : (o : Option ℕ) → ◌≡◌ {A = Placed} (record { answer = r; buffer = new }) (put_at k b o) → r ≡ false
      → (o ≡ none) × (new ≡ b)
  unfolding put_at
  put_false none e h = (refl, ap (λ (x : Placed). x.buffer) e)
  put_false (some i) e h = absurd (not_both (ap (λ (x : Placed). x.answer) e) h)

-- no leg can be advanced
pub advanced_zero : (t : List ℕ → Bool) (leg : ℕ) (b : List ℕ) → leg ≡ 0 → Advanced t leg b false b
unfolding Before
advanced_zero t leg b e =
    rw e (record { moved = λ h. absurd (not_both h refl); stayed = λ h. (λ u size c before. before, refl) })

-- ---- the first walk

-- the first k entries are the least that complete; the others are as they were
pub record Beginning (bs : List ℕ) (q : Pair) (old : List ℕ) (k : ℕ) (now : List ℕ) : Type 0 where
  pub within : k ≤ q.hops
  pub same : length now ≡ length old
  pub rest : drop k now ≡ drop k old
  pub least : LeastOf (begins bs q) k (take k now)

-- ---- a pair with a walk

module _ (bs : List ℕ) (q : Pair) (b₀ : List ℕ) (g : Listable bs q b₀) where
  abbrev p : Plan
  p = plan_in bs q

  -- it has no more hops than the plan has slots
  pub hops_slots : q.hops ≤ q.slots
  hops_slots =
      hops_within bs q.stations q.slots (terms_in q) g.accepted q.source q.destination
      q.hops g.source g.fewest g.path

  -- what completes has a front that completes, and can be gone on with
  pub front : (w : List ℕ) (i : ℕ) → begins bs q (w ++ i ∷ []) ≡ true → begins bs q w ≡ true
  front =
      completes_front bs q.stations q.slots (terms_in q) g.accepted q.source q.destination
      q.hops g.source g.fewest g.path

  pub onward : (w : List ℕ) → begins bs q w ≡ true → length w < q.hops → (i : ℕ) × (begins bs q (w ++ i ∷ []) ≡ true)
  onward =
      completes_onward bs q.stations q.slots (terms_in q) g.accepted q.source q.destination
      q.hops g.source g.fewest g.path

  -- the positions of a beginning rise
  pub rise : (w : List ℕ) (i m : ℕ) → begins bs q ((w ++ i ∷ []) ++ m ∷ []) ≡ true → i < m
  rise =
      completes_rise bs q.stations q.slots (terms_in q) g.accepted q.source q.destination
      q.hops g.source g.fewest g.path

  -- a position that completes is one of the plan's
  position_below : (w : List ℕ) (i : ℕ) → begins bs q (w ++ i ∷ []) ≡ true → i < records bs
  position_below w i e =
      let h = (completes_bounded bs q.stations q.slots (terms_in q) g.accepted q.source
      q.destination q.hops g.source g.fewest g.path).within (w ++ i ∷ []) e in
      let inside = h.1 i (Memᴰ.append_right w (Memᴰ.head refl)) in
      let size = contacts_length bs q.stations q.slots (terms_in q) in
      omega arith

  -- no entry is written
  pub beginning_none : (old : List ℕ) → Beginning bs q old 0 old
  beginning_none old =
      record {
        within = omega arith;
        same = refl;
        rest = refl;
        least = record {
          size = refl;
          passes = completes_nil bs q.stations q.slots (terms_in q) g.accepted q.source
              q.destination q.hops g.source g.fewest g.path;
          least = λ u size e. inl (empty u size);
        };
      }
    where
      empty : (u : List ℕ) → length u ≡ 0 → u ≡ []
      empty [] e = refl
      empty (x ∷ u) e = absurd (omega arith)

  pub rises : Rising (list_in bs q)
  rises = complete_list_rises p q.source q.destination

  -- its members are the lists of the pair's hops that complete
  pub mem_list : {w : List ℕ} → Memᴰ w (list_in bs q) ↔ ((length w ≡ q.hops) × (begins bs q w ≡ true))
  mem_list =
      mem_complete bs q.stations q.slots (terms_in q) g.accepted q.source q.destination
      q.hops g.source g.fewest g.path

  -- with all hops the buffer begins with the first walk
  pub beginning_all : (old : List ℕ) (k : ℕ) (now : List ℕ) → q.hops ≤ k → Beginning bs q old k now
      → now ≡ over (get_or (list_in bs q) 0 []) old
  unfolding over
  beginning_all old k now past s =
      let whole : k ≡ q.hops = let h = s.within in omega arith in
      let size = s.least.size in
      let first : get_or (list_in bs q) 0 [] ≡ take k now =
      first_place (list_in bs q) rises (take k now) (mem_list.1 (size ∙ whole, s.least.passes))
      (λ u m. let (long, c) = mem_list.0 m in s.least.least u (long ∙ sym whole) c) in
      sym (take-append-drop k now)
      ∙ ap (λ r. take k now ++ r) s.rest
      ∙ sym (rw (first, size))

  -- ---- the complete list

  -- the member with which a buffer begins is its first entries, as many as the hops
  offered_place : (b : List ℕ) (i : ℕ) → index_in (list_in bs q) b ≡ some i
      → (i < length (list_in bs q)) × (get_or (list_in bs q) i [] ≡ take q.hops b)
  offered_place b i e =
      let (inside, at) = index_inv (list_in bs q) b i e in
      let long = (mem_list.0 (mem_get_d_law (list_in bs q) i [] inside)).0 in
      (inside, at ∙ ap (λ k. take k b) long)

  -- what is offered begins a walk, as long as the pair's
  pub offered_standing : (b : List ℕ) → is_offered bs q b ≡ true → begins bs q (take q.hops b) ≡ true
  offered_standing b e =
      let (i, there, top) = holds_inv (index_in (list_in bs q) b) _ e in
      let (inside, at) = offered_place b i there in
      subst (λ w. begins bs q w ≡ true) at (mem_list.0 (mem_get_d_law (list_in bs q) i [] inside)).1

  -- a buffer begins with a member where its first entries are a walk to the destination
  pub offered_walk : (b : List ℕ) → q.hops ≤ length b
      → holds (end_after p (start q.source) (take q.hops b)) (is_at q.destination) ≡ is_offered bs q b
  offered_walk b room =
      sym (ends_end p (start q.source) (is_at q.destination) (take q.hops b))
      ∙ completes_walk bs q.stations q.slots (terms_in q) g.accepted q.source q.destination
      q.hops g.source g.fewest g.path (take q.hops b) long
      ∙ go (begins bs q (take q.hops b)) refl
    where
      long : length (take q.hops b) ≡ q.hops
      long = length-take-le q.hops b room

      go : (c : Bool) → begins bs q (take q.hops b) ≡ c → c ≡ is_offered bs q b
      go true e = sym (index_some b (mem_list.1 (long, e)) (ap (λ k. take k b) (sym long)))
      go false e = sym (not_true_false (is_offered bs q b) (λ h. not_both (offered_standing b h) e))

  -- the next prefix of as many positions as the hops is the next member
  pub stepped : (b : List ℕ) {r : Bool} {new : List ℕ} → Advanced (begins bs q) q.hops b r new
      → Stepped (list_in bs q) b r new
  stepped b {r} {new} a = record { next = λ i e. go i e (true_or_false r) }
    where
      go : (i : ℕ) → index_in (list_in bs q) b ≡ some i → (r ≡ true) ⊎ (r ≡ false)
          → (r ≡ ltb (i + 1) (length (list_in bs q)))
          × (new ≡ cond (ltb (i + 1) (length (list_in bs q))) (over (get_or (list_in bs q) (i + 1) []) b) b)
      go i e (inl there) =
          let (inside, at) = offered_place b i e in
          let (w, later, moved) = a.moved there in
          let (more, next) = next_place (list_in bs q) rises i inside w (mem_list.1 (later.size, later.passes))
          (rw at later.after)
          (λ u m before. let (size, c) = mem_list.0 m in later.least u size c (rw at at before)) in
          let test = lt-ltb (i + 1) (length (list_in bs q)) more in
          (there ∙ sym test, moved ∙ sym (rw (test, next)))
      go i e (inr nothing) =
          let (inside, at) = offered_place b i e in
          let (none-later, kept) = a.stayed nothing in
          let end = last_place (list_in bs q) rises i inside
          (λ u m before. let (size, c) = mem_list.0 m in none-later u size c (rw at at before)) in
          let test = le-ltb (i + 1) (length (list_in bs q)) end in
          (nothing ∙ sym test, kept ∙ sym (rw test))

  -- ---- with a completion table

  module _ (l : List ℕ) (table : Table bs q.stations q.slots (terms_in q) q.destination l) where
    -- the table's entry decides whether a position completes
    serves_completes : (w : List ℕ) (k : ℕ) → length w ≡ k → k < q.hops → {x : Appearance}
        → end_after p (start q.source) w ≡ some x
        → (i : ℕ)
        → serves_at p l (q.slots + 1) x (q.hops - (k + 1)) i ≡ begins bs q (w ++ i ∷ [])
    unfolding serves_at holds
    serves_completes w k size fewer {x} there i =
        go (step p x i) refl
        ∙ sym (completes_snoc bs q.stations q.slots (terms_in q) g.accepted q.source q.destination
        q.hops g.source g.fewest g.path w i there)
      where
        go : (o : Option Appearance) → step p x i ≡ o
            → holds o (λ y. eqb (get_or l (y.station * (q.slots + 1) + y.slot) 0) (q.hops - (k + 1)))
            ≡ holds o (λ y. eqb (suc (length w) + home_from p q.destination y) q.hops)
        go none e = refl
        go (some y) e =
            let (inside, there) = step_heard bs q.stations q.slots (terms_in q) g.accepted x i e in
            let entry = subst (λ (y : Appearance). get_or l (y.station * (q.slots + 1) + y.slot) 0 ≡ home_from p q.destination y)
            (sym there) (table.heard i inside) in
            rw (entry, size)
            (shifted k (home_from p q.destination y) q.hops (omega arith))

    module _ (b : List ℕ) (k from : ℕ) (fewer : k < q.hops) (inside : k < length b) where
      sized : length (take k b) ≡ k
      sized = length-take-le k b (omega arith)

      -- what is found is the first from there on that completes
      pub found_some : {i : ℕ} → found_at bs q l k from b ≡ some i
          → FirstAt (λ j. begins bs q (take k b ++ j ∷ [])) from i
      unfolding found_at
      found_some {i} e =
          let (x, there, found) = (bind-eq-some_iff (end_after p (start q.source) (take k b)) _).0 e in
          let (low, r) = first_some _ from (records bs - from) found in
          let same = serves_completes (take k b) k sized fewer there in
          record {
            low = r.low;
            passes = sym (same i) ∙ r.passes;
            sooner = λ j h c. r.sooner j h (same j ∙ c);
          }

      -- where nothing is found none from there on completes
      pub found_none : begins bs q (take k b) ≡ true → found_at bs q l k from b ≡ none
          → (j : ℕ) → from ≤ j → begins bs q (take k b ++ j ∷ []) ≡ true → ⊥
      unfolding found_at bind
      found_none standing e j low c =
          let (x, there, sum) = completes_inv bs q.stations q.slots (terms_in q) g.accepted q.source
          q.destination q.hops g.source g.fewest g.path (take k b) standing in
          let high = position_below (take k b) j c in
          first_none _ from (records bs - from) (rw there at e) j low (omega arith)
          (serves_completes (take k b) k sized fewer there j ∙ c)

    -- the first position that completes is put behind them
    pub beginning_more : (old : List ℕ) (k : ℕ) (now : List ℕ) {r : Bool} {new : List ℕ} → Beginning bs q old k now
        → k < q.hops
        → k < length now
        → ◌≡◌ {A = Placed} (record { answer = r; buffer = new }) (put_at k now (found_at bs q l k 0 now))
        → Beginning bs q old (k + 1) new
    beginning_more old k now {r} {new} s fewer inside e = go (true_or_false r)
      where
        drop_more : (x : List ℕ) → drop (suc k) x ≡ drop 1 (drop k x)
        drop_more x = sym (drop-drop 1 k x ∙ ap (λ j. drop j x) (add-one k))

        go : (r ≡ true) ⊎ (r ≡ false) → Beginning bs q old (k + 1) new
        go (inl there) =
            let (i, found, written) = put_true k now (found_at bs q l k 0 now) e there in
            let f = found_some now k 0 fewer inside found in
            let more : take (suc k) (set now k i) ≡ take k now ++ i ∷ [] = take-suc-set now k i inside in
            rw (written, add-one k) (record {
              within = omega arith;
              same = length-set now k i ∙ s.same;
              rest = drop-set-lt (suc k) now k i (omega arith)
                  ∙ drop_more now ∙ ap (drop 1) s.rest ∙ sym (drop_more old);
              least = rw more
                  (least_longer (begins bs q) front k i (take k now) s.least f.passes
                  (λ j c. f.sooner j (omega arith) c));
            })
        go (inr nothing) =
            let (gone, kept) = put_false k now (found_at bs q l k 0 now) e nothing in
            let (i, c) = onward (take k now) s.least.passes
            (let size = s.least.size in omega arith) in
            absurd (found_none now k 0 fewer inside s.least.passes gone i (omega arith) c)

    -- ---- the next prefix

    -- leg k + 1 of a buffer whose first k + 1 entries begin a walk
    module _ (b : List ℕ) (k : ℕ) (fewer : k < q.hops) (inside : k < length b)
        (standing : begins bs q (take (suc k) b) ≡ true) where
      -- so do the first k
      pub standing_front : begins bs q (take k b) ≡ true
      standing_front = front (take k b) (get_or b k 0) (rw (← take_more b k inside) standing)

      size : length (take k b) ≡ k
      size = length-take-le k b (omega arith)

      -- a later position is put in place of the last
      pub advanced_here : {r : Bool} {new : List ℕ}
          → ◌≡◌ {A = Placed} (record { answer = r; buffer = new }) (put_at k b (found_at bs q l k (get_or b k 0 + 1) b))
          → r ≡ true
          → Advanced (begins bs q) (suc k) b true new
      advanced_here e there =
          let (i, found, written) = put_true k b (found_at bs q l k (get_or b k 0 + 1) b) e there in
          let f = found_some b k (get_or b k 0 + 1) fewer inside found in
          let low = f.low in
          record {
            moved = λ h. (
              take k b ++ i ∷ [],
              rw (take_more b k inside)
                  (later_here (begins bs q) front k (get_or b k 0) (take k b) size i (omega arith) f.passes
                  (λ m more c. f.sooner m (omega arith) c)),
              written ∙ set_over b k inside i,
            );
            stayed = λ h. absurd (not_both refl h);
          }

      -- no later position, and the first k entries on none
      module _ (gone : found_at bs q l k (get_or b k 0 + 1) b ≡ none) where
        stuck : (m : ℕ) → get_or b k 0 < m → begins bs q (take k b ++ m ∷ []) ≡ true → ⊥
        stuck m more c = found_none b k (get_or b k 0 + 1) fewer inside standing_front gone m (omega arith) c

        pub advanced_none : {new : List ℕ} → Advanced (begins bs q) k b false new
            → Advanced (begins bs q) (suc k) b false new
        advanced_none a =
            let (nothing, kept) = a.stayed refl in
            record {
              moved = λ h. absurd (not_both h refl);
              stayed = λ h. (
                rw (take_more b k inside)
                    (none_behind (begins bs q) front k (get_or b k 0) (take k b) size stuck nothing),
                kept,
              );
            }

        -- the first k entries are advanced, and the first position that completes is put behind them
        pub advanced_behind : {b₁ new : List ℕ} {r : Bool} → Advanced (begins bs q) k b true b₁ → k < length b₁
            → ◌≡◌ {A = Placed} (record { answer = r; buffer = new }) (put_at k b₁ (found_at bs q l k 0 b₁))
            → Advanced (begins bs q) (suc k) b r new
        advanced_behind {b₁} {new} {r} a room e =
            let (w, later, moved) = a.moved refl in
            let front_now : take k b₁ ≡ w = ap (take k) moved ∙ over_take w b k later.size in
            go w later moved front_now (true_or_false r)
          where
            go : (w : List ℕ) → Later (begins bs q) k (take k b) w → b₁ ≡ over w b → take k b₁ ≡ w
                → (r ≡ true) ⊎ (r ≡ false)
                → Advanced (begins bs q) (suc k) b r new
            go w later moved front_now (inl there) =
                let (i, found, written) = put_true k b₁ (found_at bs q l k 0 b₁) e there in
                let f = found_some b₁ k 0 fewer room found in
                record {
                  moved = λ h. (
                    w ++ i ∷ [],
                    rw (take_more b k inside)
                        (later_behind (begins bs q) front k (get_or b k 0) (take k b) size stuck w i later
                        (rw front_now at f.passes)
                        (λ m c. f.sooner m (omega arith) (rw front_now c))),
                    written ∙ ap (λ x. set x k i) moved ∙ set_behind b k inside w i later.size,
                  );
                  stayed = λ h. absurd (not_both there h);
                }
            go w later moved front_now (inr nothing) =
                let (missing, kept) = put_false k b₁ (found_at bs q l k 0 b₁) e nothing in
                let c₀ : begins bs q (take k b₁) ≡ true = rw front_now later.passes in
                let (i, c) = onward w later.passes
                (let long = later.size in omega arith) in
                absurd (found_none b₁ k 0 fewer room c₀ missing i (omega arith) (rw front_now c))
