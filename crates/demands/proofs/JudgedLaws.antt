-- Judging a call: its first causes leave everything as it was, and the causes after them judge the work. Assumes nothing.
use Prim.Native.Nat.{ℕ, zero, suc}
use native.Mathlib.Omega.{arith}
use mathlib.Core.Path.{◌≡◌, refl, sym, subst, ◌∙◌}
use mathlib.Core.Bool.{Bool, true, false, cond}
use mathlib.Core.List.{List, [], ◌∷◌, ◌++◌, flat_map, append_assoc, append-nil}
use mathlib.Core.Logic.{◌↔◌, ◌≢◌}
use Rattle.temporal.specs.Lists.{below}
use Rattle.temporal.specs.Plan.{Terms}
use Rattle.temporal.specs.Bytes.{records}
use Rattle.temporal.specs.Cause.{cause, first, unless, terms_causes, wrong_sources, record_causes, plan_causes, station_causes, ends_causes, pair_causes}
use Rattle.temporal.specs.Outcome.{Outcome, entered}
use Rattle.temporal.specs.OutcomeSet.{set_causes}
use Rattle.temporal.proofs.CauseLaws.{first_append_none, first_append_some, first_false}
use Rattle.walks.proofs.EnteredLaws.{unless_some, unless_none, refused_with}
use Rattle.demands.specs.Demand1.{NoneHolds, Numbered, Judged}

-- ---- the number

none_holds : (l : List ℕ) → (first l ≡ 0) ↔ NoneHolds l
unfolding first NoneHolds
none_holds [] = (λ e. tt, λ e. refl)
none_holds (zero ∷ l) = (λ e. (refl, (none_holds l).0 e), λ h. (none_holds l).1 h.1)
none_holds (suc k ∷ l) = (λ e. absurd (omega arith), λ h. absurd (let e = h.0 in omega arith))

-- the first cause is 0 exactly where none holds
pub numbered : (l : List ℕ) (k : ℕ) → k ≡ first l → Numbered l k
numbered l k e = record { the_first = e; accepted = (λ z. (none_holds l).0 (sym e ∙ z), λ h. e ∙ (none_holds l).1 h) }

-- ---- lists without 9 and 10

-- the first cause of a list is neither 9 nor 10
pub record Plain (l : List ℕ) : Type 0 where
  pub not_too_many : first l ≢ 9
  pub not_unoffered : first l ≢ 10

plain_none : Plain []
unfolding first
plain_none = record { not_too_many = λ e. omega arith; not_unoffered = λ e. omega arith }

plain_cause : (k : ℕ) (b : Bool) (l : List ℕ) → k ≢ 9 → k ≢ 10 → Plain l → Plain (cause k b ∷ l)
unfolding first cause
plain_cause k false l p q rest = record { not_too_many = rest.not_too_many; not_unoffered = rest.not_unoffered }
plain_cause zero true l p q rest = record { not_too_many = rest.not_too_many; not_unoffered = rest.not_unoffered }
plain_cause (suc k) true l p q rest = record { not_too_many = p; not_unoffered = q }

-- a cause that does not hold
plain_false : (k : ℕ) (b : Bool) (l : List ℕ) → b ≡ false → Plain l → Plain (cause k b ∷ l)
unfolding first cause
plain_false k true l e rest = absurd (let z : ◌≡◌ {A = ℕ} 0 1 = cc in omega arith)
plain_false k false l e rest = record { not_too_many = rest.not_too_many; not_unoffered = rest.not_unoffered }

plain_append : (l m : List ℕ) → Plain l → Plain m → Plain (l ++ m)
plain_append l m a b = decide (first l) refl
  where
    decide : (k : ℕ) → first l ≡ k → Plain (l ++ m)
    decide zero q =
        let same = first_append_none l m q in
        record { not_too_many = λ e. b.not_too_many (sym same ∙ e); not_unoffered = λ e. b.not_unoffered (sym same ∙ e) }
    decide (suc k) q =
        let same = first_append_some l m (omega arith) in
        record { not_too_many = λ e. a.not_too_many (sym same ∙ e); not_unoffered = λ e. a.not_unoffered (sym same ∙ e) }

plain_each : (f : ℕ → List ℕ) (l : List ℕ) → ((i : ℕ) → Plain (f i)) → Plain (flat_map f l)
unfolding flat_map
plain_each f [] h = plain_none
plain_each f (i ∷ l) h = plain_append (f i) (flat_map f l) (h i) (plain_each f l h)

plain_plan : (bs : List ℕ) (n t : ℕ) → Plain (plan_causes bs n t)
unfolding plan_causes record_causes
plain_plan bs n t =
    plain_cause 1 _ _ (omega arith) (omega arith)
    (plain_cause 2 _ _ (omega arith) (omega arith)
    (plain_each (record_causes bs n t) (below (records bs)) (λ i.
    plain_cause 3 _ _ (omega arith) (omega arith)
    (plain_cause 4 _ _ (omega arith) (omega arith) (plain_cause 5 _ [] (omega arith) (omega arith) plain_none)))))

plain_terms : (terms : Terms) → Plain (terms_causes terms)
unfolding terms_causes
plain_terms terms =
    plain_cause 12 _ _ (omega arith) (omega arith) (plain_cause 14 _ [] (omega arith) (omega arith) plain_none)

-- the causes of a plan and of the terms with those of a call that names a station, a pair, or nothing
module _ (bs : List ℕ) (n t : ℕ) (terms : Terms) (lacking : Bool) where
  plain_call : (rest : List ℕ) → Plain rest → Plain (plan_causes bs n t ++ (terms_causes terms ++ rest))
  plain_call rest plain = plain_append _ _ (plain_plan bs n t) (plain_append _ _ (plain_terms terms) plain)

  pub plain_station : (s : ℕ) → Plain (plan_causes bs n t ++ (terms_causes terms ++ station_causes n s lacking))
  unfolding station_causes
  plain_station s =
      plain_call _ (plain_cause 6 _ _ (omega arith) (omega arith) (plain_cause 8 _ [] (omega arith) (omega arith) plain_none))

  pub plain_pair : (s z : ℕ) → Plain (plan_causes bs n t ++ pair_causes terms n s z lacking)
  unfolding pair_causes ends_causes
  plain_pair s z =
      plain_call _ (plain_cause 6 _ _ (omega arith) (omega arith)
      (plain_cause 7 _ _ (omega arith) (omega arith) (plain_cause 8 _ [] (omega arith) (omega arith) plain_none)))

  module _ (k : ℕ) where
    sources_and : (rest : List ℕ) → Plain rest
        → Plain (plan_causes bs n t ++ (terms_causes terms ++ cause 13 (wrong_sources n k) ∷ cause 8 lacking ∷ rest))
    sources_and rest plain =
        plain_call _ (plain_cause 13 _ _ (omega arith) (omega arith) (plain_cause 8 _ _ (omega arith) (omega arith) plain))

    pub plain_sources : Plain (plan_causes bs n t ++ (terms_causes terms ++ cause 13 (wrong_sources n k) ∷ cause 8 lacking ∷ []))
    plain_sources = sources_and [] plain_none

    -- with 9, where no source has too many
    pub plain_few : (many : Bool) → many ≡ false
        → Plain (plan_causes bs n t ++ (terms_causes terms ++ cause 13 (wrong_sources n k) ∷ cause 8 lacking ∷ cause 9 many ∷ []))
    plain_few many e = sources_and _ (plain_false 9 many [] e plain_none)

  pub plain_short : Plain (plan_causes bs n t ++ (terms_causes terms ++ cause 8 lacking ∷ []))
  plain_short = plain_call _ (plain_cause 8 _ [] (omega arith) (omega arith) plain_none)

  -- and with 17
  pub plain_position : (b : Bool) → Plain (plan_causes bs n t ++ (terms_causes terms ++ cause 8 lacking ∷ cause 17 b ∷ []))
  plain_position b =
      plain_call _ (plain_cause 8 _ _ (omega arith) (omega arith) (plain_cause 17 b [] (omega arith) (omega arith) plain_none))

-- and with those of a call that names a pair and a set
pub plain_set : (bs : List ℕ) (n t : ℕ) (terms : Terms) (s z : ℕ) (set old : List ℕ)
    → Plain (plan_causes bs n t ++ set_causes n t terms s z set old)
unfolding set_causes
plain_set bs n t terms s z set old =
    subst Plain (append_assoc (plan_causes bs n t) _ _)
    (plain_append _ _ (plain_pair bs n t terms _ s z) (plain_cause 11 _ [] (omega arith) (omega arith) plain_none))

-- and with 8 and one cause more, of a call that names nothing
pub plain_band : (bs : List ℕ) (n t : ℕ) (lacking : Bool) (k : ℕ) (b : Bool) → k ≢ 9 → k ≢ 10
    → Plain (plan_causes bs n t ++ (cause 8 lacking ∷ cause k b ∷ []))
plain_band bs n t lacking k b p q =
    plain_append _ _ (plain_plan bs n t) (plain_cause 8 _ _ (omega arith) (omega arith) (plain_cause k b [] p q plain_none))

-- ---- the call

-- lists whose first causes are the same, behind one list
first_append_same : (l a b : List ℕ) → first a ≡ first b → first (l ++ a) ≡ first (l ++ b)
first_append_same l a b e = decide (first l) refl
  where
    decide : (k : ℕ) → first l ≡ k → first (l ++ a) ≡ first (l ++ b)
    decide zero q = first_append_none l a q ∙ e ∙ sym (first_append_none l b q)
    decide (suc k) q = first_append_some l a (omega arith) ∙ sym (first_append_some l b (omega arith))

module _ {Values Buffers : Type 0} (zeros : Values) (old emptied : Buffers) where
  -- where the first causes are without 9 and 10, the whole is judged as the work is by the causes after them
  pub judged_entered : (early late : List ℕ) (work : Outcome Values Buffers) → Plain early
      → Judged late zeros old emptied work
      → Judged (early ++ late) zeros old emptied (entered early zeros old work)
  unfolding entered
  judged_entered early late work plain j = decide (first early) refl
    where
      decide : (k : ℕ) → first early ≡ k
          → Judged (early ++ late) zeros old emptied (unless (first early) (refused_with zeros old work) work)
      decide zero q =
          subst (Judged (early ++ late) zeros old emptied) (sym (unless_none (first early) _ work q))
          (record {
            numbered = numbered _ _ (j.numbered.the_first ∙ sym (first_append_none early late q));
            beside = j.beside;
            untouched = j.untouched;
            too_many = j.too_many;
            unoffered = j.unoffered;
          })
      decide (suc k) q =
          subst (Judged (early ++ late) zeros old emptied) (sym (unless_some (first early) _ work (omega arith)))
          (record {
            numbered = numbered _ _ (sym (first_append_some early late (omega arith)));
            beside = λ h. refl;
            untouched = λ a b c. refl;
            too_many = λ e. absurd (plain.not_too_many e);
            unoffered = λ e. absurd (plain.not_unoffered e);
          })

  -- a cause that does not hold may be left out of the list
  pub judged_without : (l c m : List ℕ) (k : ℕ) (b : Bool) (o : Outcome Values Buffers) → b ≡ false
      → Judged (l ++ (c ++ cause k b ∷ m)) zeros old emptied o → Judged (l ++ (c ++ m)) zeros old emptied o
  judged_without l c m k b o e j =
      record {
        numbered = numbered _ _ (j.numbered.the_first ∙
            first_append_same l _ _ (first_append_same c (cause k b ∷ m) m (first_false k b m e)));
        beside = j.beside;
        untouched = j.untouched;
        too_many = j.too_many;
        unoffered = j.unoffered;
      }

  -- an outcome whose number is 0, where no cause holds
  pub judged_accepted : (causes : List ℕ) (o : Outcome Values Buffers) → o.number ≡ 0 → first causes ≡ 0
      → Judged causes zeros old emptied o
  judged_accepted causes o e none =
      record {
        numbered = numbered causes o.number (e ∙ sym none);
        beside = λ h. absurd (h e);
        untouched = λ a b c. absurd (a e);
        too_many = λ h. absurd (omega arith);
        unoffered = λ h. absurd (omega arith);
      }

  -- a refusal with 9 or with 10, the buffers emptied
  pub judged_too_many : (causes : List ℕ) → first causes ≡ 9
      → Judged causes zeros old emptied (record { number = 9; values = zeros; buffers = emptied })
  judged_too_many causes e =
      record {
        numbered = numbered causes 9 (sym e);
        beside = λ h. refl;
        untouched = λ a b c. absurd (b refl);
        too_many = λ h. refl;
        unoffered = λ h. refl;
      }

  pub judged_unoffered : (causes : List ℕ) → first causes ≡ 10
      → Judged causes zeros old emptied (record { number = 10; values = zeros; buffers = emptied })
  judged_unoffered causes e =
      record {
        numbered = numbered causes 10 (sym e);
        beside = λ h. refl;
        untouched = λ a b c. absurd (c refl);
        too_many = λ h. refl;
        unoffered = λ h. refl;
      }

  -- an operation that has no cause left
  pub judged_plain : (causes : List ℕ) (work : Outcome Values Buffers) → Plain causes → work.number ≡ 0
      → Judged causes zeros old emptied (entered causes zeros old work)
  unfolding first
  judged_plain causes work plain e =
      subst (λ l. Judged l zeros old emptied (entered causes zeros old work)) (append-nil causes)
      (judged_entered causes [] work plain (judged_accepted [] work e refl))

  -- the work of an operation whose one cause left is 9
  pub judged_work : (many : Bool) (o : Outcome Values Buffers) → o.number ≡ 0
      → Judged (cause 9 many ∷ []) zeros old emptied
      (cond many (record { number = 9; values = zeros; buffers = emptied }) o)
  unfolding cause first
  judged_work true o e = judged_too_many (9 ∷ []) refl
  judged_work false o e = judged_accepted (0 ∷ []) o e refl
