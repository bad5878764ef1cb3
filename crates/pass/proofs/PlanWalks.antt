-- The sequences that the pass keeps: walks from a source by their hops, settled by a slot and waiting of later ones, all of them
-- and, by column, those that keep to the column's permission. A contact more and a slot more, by the recurrence.
-- Assumes nothing.
use Rattle.std.proofs.Common.{◌≡◌, ℕ, zero, suc, ◌+◌, ◌-◌, ◌<◌, ◌≤◌, Bool, true, false, cond, eqb, ◌≢◌, ◌⊎◌, List, length, sym, refl, ap, ◌∙◌, ⊎_elim, add-one, arith, eq-eqb, ne_eqb}
use native.Mathlib.Decide.{ℕ_discrete}
use mathlib.Core.Path.{fun_ext}
use mathlib.Core.Logic.{by_cases}
use mathlib.Core.Option.{Option, none as absent, some}
use lib.ListN.{get_elem?}
use Rattle.temporal.specs.Plan.{Contact, Plan, start}
use Rattle.temporal.specs.Foremost.{arrives_by}
use Rattle.walks.proofs.RuleLaws.{Waits}
use Rattle.walks.proofs.WalkLaws.{SlotsWithin}
use Rattle.counting.proofs.Weights.{total, everywhere, cond_less, total_less}
use Rattle.counting.proofs.Fewest.{Fewest, plus, delayed}
use Rattle.counting.proofs.Recurrence.{heard, at_appearance, inflow, arrivals, arrivals_suc, inflow_to_hearer}
use Rattle.counting.proofs.Recurrence.{inflow_other_slot, inflow_other_station, arrivals_same, arrivals_zero, arrivals_all}
use Rattle.counting.proofs.Recurrence.{arrivals_less, heard_more, heard_ready}
use Rattle.entries.proofs.HopLaws.{walks_few}
use Rattle.pass.specs.Row.{part_at}
use Rattle.pass.specs.Column.{Lanes}
use Rattle.pass.specs.Sweep.{folded_area, Area}
use Rattle.pass.proofs.NearLaws.{held_ext}
use Rattle.pass.proofs.StateLaws.{Walks, Sound, AreaState, state_on, sent_state}
use Rattle.pass.proofs.SettleLaws.{Settles}

-- the walks to v by slot c, by hops, where the permission g lets them go on from v
unfoldable pub kept : Plan → ℕ → (ℕ → Bool) → ℕ → ℕ → ℕ → ℕ
kept p s g v c k = cond (g v) (total p g (start s) (heard v c) k) 0

-- settled by slot c, with the contacts below position j folded in; a walk of column i may go on from v where may i v
unfoldable pub walks_at : Plan → ℕ → (ℕ → ℕ → Bool) → ℕ → ℕ → Walks
walks_at p s may c j =
    record {
      settled = λ v. kept p s everywhere v c;
      settled_avoiding = λ v i. kept p s (may i) v c;
      waits = λ e v. arrivals p s everywhere j v e;
      waits_avoiding = λ e v i. arrivals p s (may i) j v e;
    }

-- ---- a contact more

module _ (p : Plan) (q : ℕ) (waits : Waits p q) (s : ℕ) (g : ℕ → Bool) (j : ℕ) (c : Contact) (u : ℕ)
    (there : get_elem? p.contacts j ≡ some c) (slot : c.slot ≡ u) where
  -- (kept) what it brings from its sender is added for its hearer
  at_hearer : 0 < u → u ≤ p.slots → (k : ℕ)
      → plus (arrivals p s g j c.hearer u) (delayed (kept p s g c.sender (u - q))) k
      ≡ arrivals p s g (j + 1) c.hearer u k
  unfolding plus kept
  at_hearer low high k =
      rw (add-one, arrivals_suc p s g j there c.hearer u k, inflow_to_hearer p s g c u k slot)
      (ap (λ f. arrivals p s g j c.hearer u k + delayed f k)
      (fun_ext (λ k. ap (λ x. cond (g c.sender) x 0) (sym (heard_ready p s g q waits c.sender u k low high)))))

  -- and nothing for another station or slot
  at_other : (e v k : ℕ) → (e ≢ u) ⊎ (v ≢ c.hearer) → arrivals p s g j v e k ≡ arrivals p s g (j + 1) v e k
  at_other e v k d =
      rw (
        add-one,
        arrivals_suc p s g j there v e k,
        ⊎_elim (λ other. inflow_other_slot p s g c v e k (λ same. other (sym same ∙ slot)))
            (λ other. inflow_other_station p s g c v e k other) d,
      ) (omega arith)

-- ---- those under a permission are no more

wider : (g : ℕ → Bool) (v : ℕ) → g v ≡ true → everywhere v ≡ true
unfolding everywhere
wider g v e = refl

pub kept_less : (p : Plan) (s : ℕ) (g : ℕ → Bool) (v c k : ℕ) → kept p s g v c k ≤ kept p s everywhere v c k
unfolding kept
kept_less p s g v c k =
    cond_less (g v) (everywhere v) (wider g v) (total_less p g everywhere (wider g) (start s) (heard v c) k)

sound_at : (p : Plan) (s : ℕ) (may : ℕ → ℕ → Bool) (c j : ℕ) → Sound (walks_at p s may c j)
unfolding walks_at
sound_at p s may c j =
    record {
      settled = λ v i k. kept_less p s (may i) v c k;
      waits = λ e v i k. arrivals_less p s (may i) everywhere (wider (may i)) j v e k;
    }

-- ---- a slot is settled

-- nothing is kept where it may not go on
kept_closed : (p : Plan) (s : ℕ) (g : ℕ → Bool) (v c k : ℕ) → g v ≡ false → kept p s g v c k ≡ 0
unfolding kept
kept_closed p s g v c k e = rw e

-- nothing arrives in slot e at a station that no contact of that slot below position j has as hearer
pub none_heard : (p : Plan) (s : ℕ) (g : ℕ → Bool) (v e k j : ℕ)
    → ((i : ℕ) (c : Contact) → i < j → get_elem? p.contacts i ≡ some c → c.slot ≡ e → v ≢ c.hearer)
    → arrivals p s g j v e k ≡ 0
none_heard p s g v e k zero other = arrivals_zero p s g v e k
none_heard p s g v e k (suc j) other =
    go (get_elem? p.contacts j) refl (none_heard p s g v e k j (λ i c h. other i c (omega arith)))
  where
    go : (o : Option Contact) → get_elem? p.contacts j ≡ o → arrivals p s g j v e k ≡ 0 → arrivals p s g (suc j) v e k ≡ 0
    go absent there z =
        sym (arrivals_same p s g v e k j (suc j) (omega arith) (λ i c from before found.
        let same : i ≡ j = omega arith in
        absurd (let y : ◌≡◌ {A = ℕ} 0 1 = cc in omega arith)))
        ∙ z
    go (some c) there z =
        let nothing : inflow p s g c v e k ≡ 0 = by_cases (ℕ_discrete c.slot e)
        (λ slot. inflow_other_station p s g c v e k (other j c (omega arith) there slot)) (inflow_other_slot p s g c v e k) in
        arrivals_suc p s g j there v e k ∙ omega arith

-- no contact below position j is in a slot past all of them
pub none_arrived : (p : Plan) (s : ℕ) (g : ℕ → Bool) (j e : ℕ)
    → ((i : ℕ) (c : Contact) → i < j → get_elem? p.contacts i ≡ some c → c.slot ≢ e)
    → (v k : ℕ) → arrivals p s g j v e k ≡ 0
none_arrived p s g j e none v k = none_heard p s g v e k j (λ i c h there same. absurd (none i c h there same))

module _ (p : Plan) (s : ℕ) (may : ℕ → ℕ → Bool) (u j : ℕ)
    (past : (i : ℕ) (c : Contact) → j ≤ i → get_elem? p.contacts i ≡ some c → c.slot ≢ suc u)
    (within : j ≤ length p.contacts) where
  -- all that arrives in slot u + 1 has arrived
  pub arrived : (g : ℕ → Bool) (v k : ℕ) → total p g (start s) (at_appearance v (suc u)) k ≡ arrivals p s g j v (suc u) k
  arrived g v k =
      arrivals_all p s g v (suc u) k (omega arith)
      ∙ sym (arrivals_same p s g v (suc u) k j (length p.contacts) within (λ i c from h there. past i c from there))

  kept_settled : (g : ℕ → Bool) (v k : ℕ)
      → cond (g v) (plus (kept p s g v u) (arrivals p s g j v (suc u)) k) 0 ≡ kept p s g v (suc u) k
  unfolding kept plus
  kept_settled g v k = go (g v) _ _ _ _ (heard_more p s g v u k) (arrived g v k)
    where
      go : (b : Bool) (x y z a : ℕ) → x ≡ y + z → z ≡ a → cond b (cond b y 0 + a) 0 ≡ cond b x 0
      go true x y z a e f = omega arith
      go false x y z a e f = refl

-- what is settled by slot u + 1, and of that slot nothing waits any more
unfoldable pub walks_taken : Plan → ℕ → (ℕ → ℕ → Bool) → ℕ → ℕ → Walks
walks_taken p s may u j =
    record {
      settled = λ v. kept p s everywhere v (suc u);
      settled_avoiding = λ v i. kept p s (may i) v (suc u);
      waits = λ e v k. cond (eqb e (suc u)) 0 (arrivals p s everywhere j v e k);
      waits_avoiding = λ e v i k. cond (eqb e (suc u)) 0 (arrivals p s (may i) j v e k);
    }

module _ (p : Plan) (s : ℕ) (may : ℕ → ℕ → Bool) (u j : ℕ)
    (past : (i : ℕ) (c : Contact) → j ≤ i → get_elem? p.contacts i ≡ some c → c.slot ≢ suc u)
    (within : j ≤ length p.contacts) where
  -- settling slot u + 1 makes of the walks by slot u those by slot u + 1
  pub settles_slot : Settles may (suc u) (walks_at p s may u j) (walks_taken p s may u j)
  unfolding walks_at walks_taken everywhere
  settles_slot =
      record {
        sound = sound_at p s may u j;
        sound_after = record {
          settled = λ v i k. kept_less p s (may i) v (suc u) k;
          waits = λ e v i k. none_less (eqb e (suc u)) (arrivals_less p s (may i) everywhere (wider (may i)) j v e k);
        };
        here = λ v. record {
          closed = λ i k e. kept_closed p s (may i) v u k e;
          settled = λ k. kept_settled p s may u j past within everywhere v k;
          avoids = λ i k. kept_settled p s may u j past within (may i) v k;
          cleared = λ k. ap (λ b. cond b 0 (arrivals p s everywhere j v (suc u) k)) (eq-eqb (suc u) (suc u) refl);
        };
        others = λ e v k other. sym (ap (λ b. cond b 0 (arrivals p s everywhere j v e k)) (ne_eqb e (suc u) other));
        others_avoid = λ e v i k other. sym (ap (λ b. cond b 0 (arrivals p s (may i) j v e k)) (ne_eqb e (suc u) other));
      }
    where
      none_less : (b : Bool) {x y : ℕ} → x ≤ y → cond b 0 x ≤ cond b 0 y
      none_less true h = omega arith
      none_less false h = h

-- The q slots past u + 1, after slot u + 1 is settled: the state is that by slot u + 1, where no record of the slot that is new is
-- folded in.
pub state_taken : (known : Bool) (lay : Lanes) (p : Plan) (s : ℕ) (may : ℕ → ℕ → Bool) (u j n block q : ℕ) (old w : List ℕ) → 0 < q
    → Sound (walks_taken p s may u j)
    → ((i : ℕ) (c : Contact) → i < j → get_elem? p.contacts i ≡ some c → c.slot ≢ u + 1 + q)
    → AreaState known lay n block q u old (walks_taken p s may u j) w
    → AreaState known lay n block q (u + 1) old (walks_at p s may (u + 1) j) w
unfolding walks_taken walks_at
state_taken known lay p s may u j n block q old w parts sound none state =
    rw add-one (on (state_on parts sound
    (λ v k. ap (λ b. cond b 0 (arrivals p s everywhere j v (u + 1) k)) (eq-eqb (u + 1) (suc u) (omega arith)))
    (λ v k. ap (λ b. cond b 0 (arrivals p s everywhere j v (u + 1 + q) k)) (ne_eqb (u + 1 + q) (suc u) (omega arith))
    ∙ none_arrived p s everywhere j (u + 1 + q) none v k)
    state))
  where
    -- of a slot past u + 1 all that arrived waits
    on : AreaState known lay n block q (u + 1) old (walks_taken p s may u j) w → AreaState known lay n block q (suc u) old (walks_at p s may (suc u) j) w
    on x =
        record {
          same = x.same;
          beyond = x.beyond;
          settled = x.settled;
          waits = λ e v low high h.
              held_ext (λ k. ap (λ b. cond b 0 (arrivals p s everywhere j v e k)) (ne_eqb e (suc u) (omega arith)))
              (λ i k. ap (λ b. cond b 0 (arrivals p s (may i) j v e k)) (ne_eqb e (suc u) (omega arith)))
              (x.waits e v (omega arith) (omega arith) h);
          thin = x.thin;
        }

-- ---- a walk's hops

-- the fewest hops of settled walks are no more than the slots
few_hops : (p : Plan) → SlotsWithin p → (s v c h : ℕ) → Fewest (kept p s everywhere v c) h → h < 65535
    → h ≤ p.slots
unfolding kept everywhere
few_hops p fits s v c h f q = walks_few p fits s h (arrives_by v c) (f.some q)

-- ---- a record is folded in

module _ (p : Plan) (q : ℕ) (waits : Waits p q) (fits : SlotsWithin p) (few : p.slots ≤ 255) (s : ℕ) (may : ℕ → ℕ → Bool)
    (known : Bool) (lay : Lanes) (n block : ℕ) (old : List ℕ) (area : Area n block q old) where
  -- settled walks can take one hop more
  one_more : {h : ℕ} (v c : ℕ) → Fewest (kept p s everywhere v c) h → h < 65535 → h + 1 < 65535
  one_more {h} v c f g = let most = few_hops p fits s v c h f g in omega arith

  -- (kept) Folding the contact at position j, in slot u: its walks have arrived too.
  pub folded_state : (u j : ℕ) (c : Contact) (w : List ℕ) → get_elem? p.contacts j ≡ some c → c.slot ≡ u
      → 0 < u → u ≤ p.slots → c.sender < n → c.hearer < n
      → AreaState known lay n block q (u - q) old (walks_at p s may (u - q) j) w
      → AreaState known lay n block q (u - q) old (walks_at p s may (u - q) (j + 1)) (folded_area known n block (part_at n block q u) w c)
  unfolding folded_area walks_at
  folded_state u j c w there slot low high sender hearer state =
      let parts = waits.some in
      sent_state known lay n block q (u - q) old area (walks_at p s may (u - q) j) (walks_at p s may (u - q) (j + 1)) w u c.sender
      c.hearer (omega arith) (omega arith) sender hearer
      (sound_at p s may (u - q) j) state (one_more c.sender (u - q) (state.settled c.sender sender).entry.fewest)
      (λ v k. refl) (λ v i k. refl)
      (at_hearer p q waits s everywhere j c u there slot low high)
      (λ i. at_hearer p q waits s (may i) j c u there slot low high)
      (λ e v k. at_other p q waits s everywhere j c u there slot e v k)
      (λ e v i k. at_other p q waits s (may i) j c u there slot e v k)
