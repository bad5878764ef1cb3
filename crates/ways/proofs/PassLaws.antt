-- The backward pass by records where nothing goes stale: what the table holds on the way, that storing and folding a record keep it so,
-- and that it is the completion table at the end. Assumes nothing.
use Prim.Native.Nat.{ℕ, suc, ◌+◌, ◌-◌, ◌*◌, ◌/◌, ◌<◌, ◌≤◌}
use native.Mathlib.Omega.{arith}
use native.Mathlib.Decide.{ℕ_discrete}
use mathlib.Core.Path.{◌≡◌, refl, sym, ap, ◌∙◌}
use mathlib.Core.Bool.{true, false}
use mathlib.Core.List.{List}
use mathlib.Core.Logic.{inr, ⊎_elim, by_cases}
use mathlib.Core.Option.{some}
use lib.ListN.{length, get_or, drop, get_elem?}
use Rattle.temporal.specs.Plan.{Contact, Plan, Terms, Keeps, may_follow}
use Rattle.temporal.specs.Walk.{ends_in, is_at}
use Rattle.temporal.specs.Bytes.{contact_at, records, plan_of}
use Rattle.lists.proofs.ListLaws.{not_true_false}
use Rattle.walks.proofs.RuleLaws.{InTime, follows_start, follows_intro, follows_inv, leads_from_sender, leads_none}
use Rattle.walks.proofs.Accepted.{ContactWithin, accepted}
use Rattle.walks.proofs.PlanLaws.{contact_there, contact_inv, contacts_length, slots_within, slots_sorted}
use Rattle.ways.specs.Home.{appearance, home_hops, Completable, Completed}
use Rattle.ways.specs.Column.{folded_back, stored_back, is_due, Begun, RecordWithin}
use Rattle.ways.proofs.FewestLaws.{Fewest, fewest_unique}
use Rattle.ways.proofs.AheadLaws.{Ahead, fewest_home, ahead_none, ahead_all, ahead_heard, ahead_fold, ahead_past}
use Rattle.ways.proofs.ColumnLaws.{place_below, start_below, place_same, folded_length, folded_beyond, folded_slot}
use Rattle.ways.proofs.ColumnLaws.{folded_station, folded_sender, stored_length, stored_beyond, stored_start, stored_other}
use Rattle.ways.proofs.ColumnLaws.{stored_hearer, due_inv, due_not}

-- The records from j on are folded in, and the start's column holds what starts with them. Those from i on are stored; those before i may
-- be followed by all that are folded in.
pub record Passing (bs : List ℕ) (n t : ℕ) (terms : Terms) (z : ℕ) (old : List ℕ) (i j : ℕ) (l : List ℕ) : Type 0 where
  pub ready : Completable bs n t terms z old
  pub keeps : Keeps t terms
  pub order : i ≤ j
  pub position : j ≤ records bs
  pub turned : (x y : ℕ) → x < i → j ≤ y → y < records bs → (contact_at bs x).slot + terms.turnaround ≤ (contact_at bs y).slot
  pub start : (v : ℕ) → v < n → Fewest (Ahead (plan_of bs n t terms) z j (appearance v 0)) (get_or l (v * (t + 1)) 0)
  pub heard : (x : ℕ) → i ≤ x → x < records bs
      → get_or l ((contact_at bs x).hearer * (t + 1) + (contact_at bs x).slot) 0
      ≡ home_hops (plan_of bs n t terms) z (contact_at bs x).hearer (contact_at bs x).slot
  pub beyond : drop (n * (t + 1)) l ≡ drop (n * (t + 1)) old
  pub same : length l ≡ length old

-- the pass begins: in the start's column nothing but the empty walk is ahead
pub passing_begun : (bs : List ℕ) (n t : ℕ) (terms : Terms) (z : ℕ) (old : List ℕ) → Completable bs n t terms z old → Keeps t terms
    → (l : List ℕ) (m : ℕ)
    → Begun n (t + 1) z old l
    → m ≡ length bs / 6
    → Passing bs n t terms z l m m l
unfolding records
passing_begun bs n t terms z old g keeps l m b count =
    record {
      ready = record {
        accepted = g.accepted;
        units = g.units;
        destination = g.destination;
        fits = let same = b.same in let room = g.fits in omega arith;
      };
      keeps = keeps;
      order = omega arith;
      position = omega arith;
      turned = λ x y h k inside. absurd (omega arith);
      start = λ v h. rw (b.start v h) (ahead_none (plan_of bs n t terms) z v 0 m (let size = contacts_length bs n t terms in omega arith));
      heard = λ x h inside. absurd (omega arith);
      beyond = refl;
      same = refl;
    }

module _ (bs : List ℕ) (n t : ℕ) (terms : Terms) (z : ℕ) (old : List ℕ) (i j : ℕ) (l : List ℕ)
    (s : Passing bs n t terms z old i j l) where
  abbrev p : Plan
  p = plan_of bs n t terms

  abbrev c : ℕ → Contact
  c x = contact_at bs x

  within : (x : ℕ) → x < records bs → ContactWithin n t (c x)
  within x h = (accepted bs n t s.ready.accepted).contact x h

  fits : n * (t + 1) ≤ length l
  fits = let room = s.ready.fits in let same = s.same in omega arith

  -- slots do not fall
  sorted : (x y : ℕ) → x ≤ y → y < records bs → (c x).slot ≤ (c y).slot
  sorted x y h inside =
      let up : x + (y - x) ≡ y = omega arith in
      rw up at (slots_sorted bs n t terms s.ready.accepted x (y - x) (omega arith))

  -- what an appearance has to go is the fewest of all its walks
  home_fewest : (v u : ℕ) → u ≤ t → Fewest (λ w. ends_in p (appearance v u) (is_at z) w ≡ true) (home_hops p z v u)
  unfolding plan_of
  home_fewest v u h =
      let few = (accepted bs n t s.ready.accepted).slots in
      fewest_home p z (slots_within bs n t terms s.ready.accepted) (omega arith) (appearance v u) h

  -- a record's entries lie within the list
  pub passing_room : (x : ℕ) → x < j → RecordWithin bs (t + 1) x l
  passing_room x h =
      let position = s.position in
      let whole = (accepted bs n t s.ready.accepted).whole in
      let k = within x (omega arith) in
      let last = k.to_last in
      record {
        inside = omega arith;
        sender_entry = start_below k.sender_station (omega arith) fits;
        hearer_entry = place_below k.hearer_station (omega arith) fits;
      }

  -- there is a record to look at
  pub passing_look : 0 < j → (i ≤ j) × (0 < j) × (j * 6 ≤ length bs)
  passing_look more =
      let position = s.position in
      let whole = (accepted bs n t s.ready.accepted).whole in
      (s.order, more, omega arith)

  -- ---- a record is stored

  module _ (more : 0 < j) (due : is_due bs terms.turnaround i j ≡ true) where
    -- there is one
    pub passing_some : 0 < i
    passing_some = (due_inv bs terms.turnaround i j due).0

    abbrev last : ℕ
    last = i - 1

    inside : last < records bs
    inside = let order = s.order in let position = s.position in let before = passing_some in omega arith

    near : (c (j - 1)).slot < (c last).slot + terms.turnaround
    near =
        let order = s.order in
        let position = s.position in
        let before = passing_some in
        let rise = sorted last (j - 1) (omega arith) (omega arith) in
        omega (arith, (due_inv bs terms.turnaround i j due).1)

    -- (kept) all that are folded in may follow it
    follows : (x : ℕ) (d : Contact) → j ≤ x → get_elem? p.contacts x ≡ some d → may_follow p (c last).slot d.slot ≡ true
    unfolding plan_of
    follows x d h there =
        let (known, same) = contact_inv bs n t terms x d there in
        let before = passing_some in
        let after = s.turned last x (omega arith) h known in
        let end = (within x known).to_last in
        let one = (within last inside).from_one in
        let turns = s.ready.units.turns in
        let keeps = s.keeps in
        rw (← same)
        (follows_intro p (c last).slot (c x).slot (omega arith) (inr (record { turned = omega arith; fresh = omega arith })))

    -- and none that is left may
    barred : (x : ℕ) (d : Contact) → x < j → get_elem? p.contacts x ≡ some d → may_follow p (c last).slot d.slot ≡ false
    unfolding plan_of
    barred x d h there =
        let (known, same) = contact_inv bs n t terms x d there in
        let position = s.position in
        let rise = sorted x (j - 1) (omega arith) (omega arith) in
        let one = (within last inside).from_one in
        let close = near in
        rw (← same)
        (not_true_false (may_follow p (c last).slot (c x).slot) (λ f.
        ⊎_elim
        (λ (first : (c last).slot ≡ 0). omega arith)
        (λ (w : InTime p (c last).slot (c x).slot). let turned = w.turned in omega arith)
        (follows_inv p (c last).slot (c x).slot f).1))

    -- (kept) so the hearer's first entry is what it has to go in the record's slot
    finished : get_or l ((c last).hearer * (t + 1)) 0 ≡ home_hops p z (c last).hearer (c last).slot
    finished =
        fewest_unique
        (ahead_all p z (appearance (c last).hearer (c last).slot) j _ barred
        (ahead_heard p z (c last).hearer (c last).slot j follows (s.start (c last).hearer (within last inside).hearer_station)))
        (home_fewest (c last).hearer (c last).slot (within last inside).to_last)

    -- (kept) it is stored
    pub passing_store : (out : List ℕ) → out ≡ stored_back (t + 1) (c last) l → Passing bs n t terms z old last j out
    passing_store out e =
        rw e (record {
          ready = s.ready;
          keeps = s.keeps;
          order = let order = s.order in omega arith;
          position = s.position;
          turned = λ x y h k m. s.turned x y (omega arith) k m;
          start = λ v h. rw (stored_start n (t + 1) (c last) l later column sender hearer fits v) (s.start v h);
          heard = stored;
          beyond = stored_beyond n (t + 1) (c last) l later column sender hearer fits ∙ s.beyond;
          same = stored_length n (t + 1) (c last) l later column sender hearer fits ∙ s.same;
        })
      where
        later : 0 < (c last).slot
        later = (within last inside).from_one

        column : (c last).slot < t + 1
        column = let end = (within last inside).to_last in omega arith

        sender : (c last).sender < n
        sender = (within last inside).sender_station

        hearer : (c last).hearer < n
        hearer = (within last inside).hearer_station

        stored : (x : ℕ) → last ≤ x → x < records bs
            → get_or (stored_back (t + 1) (c last) l) ((c x).hearer * (t + 1) + (c x).slot) 0 ≡ home_hops p z (c x).hearer (c x).slot
        stored x h known =
            by_cases (ℕ_discrete ((c x).hearer * (t + 1) + (c x).slot) ((c last).hearer * (t + 1) + (c last).slot))
            (λ e.
            let end = (within x known).to_last in
            let (station, slot) = place_same (c x).hearer (c x).slot (c last).hearer (c last).slot (t + 1) (omega arith) column e in
            ap (λ k. get_or (stored_back (t + 1) (c last) l) k 0) e
            ∙ stored_hearer n (t + 1) (c last) l later column sender hearer fits
            ∙ finished
            ∙ ap (λ k. home_hops p z k (c last).slot) (sym station)
            ∙ ap (λ k. home_hops p z (c x).hearer k) (sym slot))
            (λ other.
            stored_other n (t + 1) (c last) l later column sender hearer fits _ other
            ∙ s.heard x
            (by_cases (ℕ_discrete x last)
            (λ e. absurd (other (ap (λ k. (c k).hearer * (t + 1) + (c k).slot) e)))
            (λ e. omega arith)) known)

  -- ---- a record is folded in

  module _ (more : 0 < j) (past : is_due bs terms.turnaround i j ≡ false) where
    abbrev next : ℕ
    next = j - 1

    known : next < records bs
    known = let position = s.position in omega arith

    -- it lies at least the turnaround after those that are not stored
    after : (x : ℕ) → x < i → (c x).slot + terms.turnaround ≤ (c next).slot
    after x h =
        let order = s.order in
        let position = s.position in
        let rise = sorted x (i - 1) (omega arith) (omega arith) in
        let turns = s.ready.units.turns in
        omega (arith, due_not bs terms.turnaround i j past (omega arith))

    -- so it is stored itself
    is_stored : i ≤ next
    is_stored = by_cases (ℕ_discrete i j)
        (λ e. absurd (let far = after next (omega arith) in let turns = s.ready.units.turns in omega arith))
        (λ e. let order = s.order in omega arith)

    -- it is folded in
    pub passing_fold : (out : List ℕ) → out ≡ folded_back (t + 1) (c next) l → Passing bs n t terms z old i next out
    passing_fold out e =
        rw e (record {
          ready = s.ready;
          keeps = s.keeps;
          order = is_stored;
          position = let position = s.position in omega arith;
          turned = λ x y h k m. by_cases (ℕ_discrete y next)
              (λ e. rw e (after x h))
              (λ e. s.turned x y h (omega arith) m);
          start = λ v h. by_cases (ℕ_discrete v (c next).sender) from_sender (λ other.
              rw (folded_station n (t + 1) (c next) l later column sender hearer fits v other)
              (ahead_past p z v 0 next (c next) there (leads_none (c next) v other) (before v h)));
          heard = λ x h m.
              let k = within x m in
              let end = k.to_last in
              folded_slot n (t + 1) (c next) l later column sender hearer fits (c x).hearer (c x).slot k.from_one (omega arith)
              ∙ s.heard x h m;
          beyond = folded_beyond n (t + 1) (c next) l later column sender hearer fits ∙ s.beyond;
          same = folded_length n (t + 1) (c next) l later column sender hearer fits ∙ s.same;
        })
      where
        later : 0 < (c next).slot
        later = (within next known).from_one

        column : (c next).slot < t + 1
        column = let end = (within next known).to_last in omega arith

        sender : (c next).sender < n
        sender = (within next known).sender_station

        hearer : (c next).hearer < n
        hearer = (within next known).hearer_station

        there : get_elem? p.contacts next ≡ some (c next)
        there = contact_there bs n t terms next known

        before : (v : ℕ) → v < n → Fewest (Ahead p z (suc next) (appearance v 0)) (get_or l (v * (t + 1)) 0)
        before v h = let up : suc next ≡ j = omega arith in rw up (s.start v h)

        ahead : Fewest (λ r. ends_in p (appearance (c next).hearer (c next).slot) (is_at z) r ≡ true)
            (get_or l ((c next).hearer * (t + 1) + (c next).slot) 0)
        ahead = rw (s.heard next is_stored known) (home_fewest (c next).hearer (c next).slot (within next known).to_last)

        from_sender : {v : ℕ} → v ≡ (c next).sender
            → Fewest (Ahead p z next (appearance v 0)) (get_or (folded_back (t + 1) (c next) l) (v * (t + 1)) 0)
        from_sender q =
            rw (q, folded_sender n (t + 1) (c next) l later column sender hearer fits)
            (ahead_fold p z (c next).sender 0 next (c next) there (follows_start p (c next).slot later) (leads_from_sender (c next))
            (before (c next).sender sender) ahead)

-- with no record left the table is filled
pub passing_end : (bs : List ℕ) (n t : ℕ) (terms : Terms) (z : ℕ) (old first : List ℕ) → Begun n (t + 1) z old first
    → (i j : ℕ) (l : List ℕ)
    → Passing bs n t terms z first i j l
    → j ≤ 0
    → Completed bs n t terms z old l
passing_end bs n t terms z old first b i j l s none =
    record {
      table = record {
        fits = fits bs n t terms z first i j l s;
        start = λ v h. fewest_unique
            (ahead_all (plan_of bs n t terms) z (appearance v 0) j _ (λ x d less at. absurd (omega arith)) (s.start v h))
            (home_fewest bs n t terms z first i j l s v 0 (omega arith));
        heard = λ x h. s.heard x (let order = s.order in omega arith) h;
      };
      beyond = s.beyond ∙ b.beyond;
      same = s.same ∙ b.same;
    }
