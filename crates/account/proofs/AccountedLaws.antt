-- The account of a station from what loads answers. Assumes nothing.
use Prim.Native.Nat.{ℕ, suc, ◌+◌, ◌*◌, ◌<◌, ◌≤◌, min}
use native.Mathlib.Omega.{arith}
use native.Mathlib.Nat.{zero-add, mul-le-mul}
use mathlib.Core.Path.{◌≡◌, sym, ap, ap₂, subst, ◌∙◌}
use mathlib.Core.Bool.{false}
use mathlib.Core.List.{List, ◌++◌}
use lib.Dec.{leb}
use lib.ListN.{length, get_or, take, drop}
use borrow.Author.Tests.{leb-false}
use Rattle.temporal.specs.Plan.{Terms, turning}
use Rattle.temporal.specs.Load.{pairs, load}
use Rattle.temporal.specs.Bytes.{contact_at, plan_of}
use Rattle.temporal.specs.Cause.{first, unless, plan_causes, terms_causes, too_many_anywhere}
use Rattle.temporal.specs.Outcome.{Outcome, over}
use Rattle.temporal.specs.OutcomePair.{LoadBuffers, loads}
use Rattle.walks.proofs.Accepted.{accepted}
use Rattle.lists.proofs.BufferLaws.{written}
use Rattle.temporal.proofs.CauseLaws.{first_append_none, first_append_some}
use Rattle.walks.proofs.EnteredLaws.{unless_some, unless_none}
use Rattle.loads.specs.Answer.{load_buffers, loads_outcome}
use Rattle.std.specs.Prelude.{Result}
use Rattle.plan.specs.Fault.{answer_number}
use Rattle.plan.specs.declared.Fault.{Fault}
use Rattle.text.specs.Written as text
use Rattle.text.proofs.PutLaws.{room_first, room_rest, put_both}
use Rattle.layered.specs.Layered.{layered}
use Rattle.layered.specs.Writing.{Layerable}
use Rattle.layered.proofs.RecordLaws.{layered_length}
use Rattle.layered.proofs.LayeringLaws.{accepted_layerable, layered_front}
use Rattle.report.specs.Report.{refusal_text, input_causes, input_plan}
use Rattle.report.proofs.ReportLaws as report
use Rattle.account.specs.Account.{most_walks, station_line, account_text, refusal_of, accounted, Accounted}
use Rattle.account.specs.Work.{pairs_text}
use Rattle.account.specs.Whole.{station_text, with_station, LayersWritable, LoadedFor, AccountWithin}
use Rattle.account.proofs.LengthLaws.{account_length}
use Rattle.account.proofs.RefusedLaws.{plan_causes_small, terms_causes_other, with_zero, with_causes}

-- ---- from a text written at the beginning to the contract

pub account_text_law :
    (bs : List ℕ) (terms : Terms) (v k : ℕ) (out : List ℕ) (r : ℕ) (now new : List ℕ) →
    text.Put 0 new out r now → new ≡ accounted bs terms v k → Accounted bs terms v k out r now
unfolding text.written over
account_text_law bs terms v k out r now new p e =
    record {
      length_is = p.place ∙ zero-add (length new) ∙ ap length e;
      text_is = p.contents ∙ ap (λ j. new ++ drop j out) (zero-add (length new)) ∙ ap (λ x. x ++ drop (length x) out) e;
    }

-- a number of walks above the most counts as the most
pub account_walks :
    (bs : List ℕ) (terms : Terms) (v k walks : ℕ) (out : List ℕ) (r : ℕ) (now : List ℕ) →
    k ≡ min walks most_walks → Accounted bs terms v k out r now → Accounted bs terms v walks out r now
unfolding accounted
account_walks bs terms v k walks out r now e a =
    let least : min k most_walks ≡ min walks most_walks = omega arith in
    let same : accounted bs terms v k ≡ accounted bs terms v walks =
    ap (λ j. unless (refusal_of bs terms v) refusal_text (account_text (contact_at bs) (input_plan bs terms) v j)) least in
    record { length_is = a.length_is ∙ ap length same; text_is = a.text_is ∙ ap (λ x. over x out) same }

-- ---- an input that is refused before the plan is looked at

pub account_input :
    (bs : List ℕ) (terms : Terms) (v k j : ℕ) → first (input_causes bs) ≡ suc j → refusal_text (suc j) ≡ accounted bs terms v k
unfolding accounted refusal_of
account_input bs terms v k j e =
    let number : refusal_of bs terms v ≡ suc j = first_append_some (input_causes bs) _ (omega arith) ∙ e in
    sym (unless_some (refusal_of bs terms v) _ _ (omega arith) ∙ ap refusal_text number)

-- ---- an input within the limits

module _ (bs : List ℕ) (n t g v k : ℕ) (out ps ls layers way area : List ℕ)
    (a : AccountWithin bs n t k out ps ls layers way area) (r : Result (Unit {0}) Fault) (ps' ls' area' : List ℕ)
    (e : loads_outcome r (load_buffers ps' ls' area') ≡ loads bs n t (turning g) (load_buffers ps ls area)) (x : ℕ)
    (told : x ≡ with_station (answer_number r) (leb n v)) where
  -- the number of the refusal is the one that is told
  number_is : refusal_of bs (turning g) v ≡ x
  unfolding refusal_of report.causes
  number_is =
      first_append_none (input_causes bs) _ (report.passes bs n t (turning g) out ps ls area a.within) ∙
      rw (← a.within.stations, ← a.within.slots)
      (sym (told ∙ ap (λ j. with_station j (leb n v))
      (ap (λ o. o.number) e ∙ report.loads_number_law bs n t (turning g) out ps ls area a.within) ∙
      with_causes (plan_causes bs n t) (terms_causes (turning g)) (leb n v) (too_many_anywhere (plan_of bs n t (turning g)))
      (λ nine. omega (arith, plan_causes_small bs n t)) (terms_causes_other (turning g))))

  pub accounted_refused : (x ≡ 0 → ⊥) → refusal_text x ≡ accounted bs (turning g) v k
  unfolding accounted
  accounted_refused some =
      sym (unless_some (refusal_of bs (turning g) v) _ _ (omega (arith, number_is)) ∙ ap refusal_text number_is)

  module _ (none : x ≡ 0) where
    zeros : (answer_number r ≡ 0) × (leb n v ≡ false)
    zeros = with_zero (answer_number r) (leb n v) (sym told ∙ none)

    pub accounted_loaded : station_text bs n t g v k ≡ accounted bs (turning g) v k
    unfolding accounted
    accounted_loaded =
        let few = a.few_walks in
        let least : min k most_walks ≡ k = omega arith in
        sym (unless_none (refusal_of bs (turning g) v) _ _ (number_is ∙ none) ∙
        rw (← a.within.stations, ← a.within.slots) (ap (station_text bs n t g v) least))

    -- what loads answers, with the number 0
    answer :
        ◌≡◌ {A = Outcome (Unit {0}) LoadBuffers}
        (record { number = 0; values = tt; buffers = load_buffers ps' ls' area' }) (loads bs n t (turning g) (load_buffers ps ls area))
    answer =
        ap {B = Outcome (Unit {0}) LoadBuffers}
        (λ j. record { number = j; values = tt; buffers = load_buffers ps' ls' area' }) (sym zeros.0) ∙ e

    -- loads has left the tables, and everything fits
    pub loaded_for : length area' ≡ length area → LoadedFor bs n t g v k out ps' ls' layers way area'
    loaded_for kept =
        let w = a.within in
        let ok = report.no_fault bs n t (turning g) out ps ls area w ps' ls' area' answer in
        let counted = report.not_many bs n t (turning g) out ps ls area w ps' ls' area' answer in
        let few_stations = report.few_stations bs n t (turning g) out ps ls area w in
        let few_slots = report.few_slots bs n t (turning g) out ps ls area w in
        let few_records = report.few_records bs n t (turning g) out ps ls area w in
        let room = report.printable bs n t (turning g) out ps ls area w ps' ls' area' answer in
        let station : v < n = leb-false n v zeros.1 in
        let most = a.few_walks in
        let plan = plan_of bs n t (turning g) in
        record {
          accepted = ok;
          stations = few_stations;
          slots = few_slots;
          few = few_records;
          allowed = report.right bs n t (turning g) out ps ls area w ps' ls' area' answer;
          counted = counted;
          station = station;
          few_walks = most;
          pairs_room = room.pairs_room;
          loads_room = room.loads_room;
          pairs_entry =
              ap (λ l. get_or l v 0) (report.pairs_table_law bs n t (turning g) out ps ls area w ps' ls' area' answer) ∙
              written (pairs plan) n v ps station;
          load_entry =
              ap (λ l. get_or l v 0) (report.loads_table bs n t (turning g) out ps ls area w ps' ls' area' answer) ∙
              written (load plan) n v ls station;
          layers_room = omega (arith, a.layers_size, (accepted bs n t ok).whole);
          way_room = omega (arith, a.way_size);
          work_room = omega (arith, a.work_size_law, mul-le-mul (twice few_stations) (slots_more few_slots));
          text_room =
              omega (
                arith,
                a.out_size,
                account_length bs n t (turning g) v k ok (omega arith) counted few_stations few_slots station most,
              );
        }
      where
        twice : n ≤ 32 → 2 * n ≤ 64
        twice h = omega arith

        slots_more : t ≤ 63 → t + 1 ≤ 64
        slots_more h = omega arith

-- ---- the tables are there: the first line, the layered plan, the pairs

module _ (bs : List ℕ) (n t g v k : ℕ) (out ps ls layers way area : List ℕ)
    (a : LoadedFor bs n t g v k out ps ls layers way area) where
  -- the text is the first line with the tables' entries, then the pairs
  parts : station_text bs n t g v k ≡ station_line v (get_or ps v 0) (get_or ls v 0) ++ pairs_text bs n t g v k
  unfolding account_text
  parts =
      ap₂ (λ p l. station_line v p l ++ pairs_text bs n t g v k) (sym a.pairs_entry) (sym a.load_entry)

  room : 0 + length (station_line v (get_or ps v 0) (get_or ls v 0) ++ pairs_text bs n t g v k) ≤ length out
  room = omega (arith, ap length parts, a.text_room)

  pub station_room : 0 + length (station_line v (get_or ps v 0) (get_or ls v 0)) ≤ length out
  station_room = room_first 0 (station_line v (get_or ps v 0) (get_or ls v 0)) (pairs_text bs n t g v k) out room

  pub loaded_layerable : Layerable bs n layers
  loaded_layerable =
      accepted_layerable bs n t layers a.accepted (omega (arith, a.stations)) (omega (arith, a.few)) a.layers_room

  module _ (end : ℕ) (mid : List ℕ) (p : text.Put 0 (station_line v (get_or ps v 0) (get_or ls v 0)) out end mid) where
    pub layers_writable :
        (layers' : List ℕ) → layers' ≡ over (layered bs n v) layers → LayersWritable bs n t g v k end layers' ps way area mid
    layers_writable layers' e =
        record {
          layers_room =
              omega (
                arith,
                ap length e,
                report.length_over (layered bs n v) layers,
                layered_length bs n v,
                (accepted bs n t a.accepted).whole,
              );
          writable =
              record {
                accountable =
                    record {
                      accepted = a.accepted;
                      stations = a.stations;
                      slots = a.slots;
                      few = a.few;
                      allowed = a.allowed;
                      counted = a.counted;
                      station = a.station;
                      layers = ap (take (2 * length bs)) e ∙ layered_front bs n t v layers a.accepted;
                      through_room = a.pairs_room;
                      way_room = a.way_room;
                      work_room = a.work_room;
                    };
                few_walks = a.few_walks;
                room =
                    room_rest 0 (station_line v (get_or ps v 0) (get_or ls v 0)) (pairs_text bs n t g v k) out room end mid p;
              };
        }

    pub account_written :
        (r : ℕ) (now : List ℕ) → text.Put end (pairs_text bs n t g v k) mid r now → text.Put 0 (station_text bs n t g v k) out r now
    account_written r now q =
        subst (λ l. text.Put 0 l out r now) (sym parts)
        (put_both 0 (station_line v (get_or ps v 0) (get_or ls v 0)) (pairs_text bs n t g v k) out room end mid p r now q)

-- ---- for callers

-- the text lies within the output buffer
pub accounted_within :
    {bs : List ℕ} {terms : Terms} {v k : ℕ} {out : List ℕ} {size : ℕ} {now : List ℕ} →
    Accounted bs terms v k out size now → size ≤ length now
accounted_within {bs} {terms} {v} {k} {out} r =
    omega (arith, r.length_is, ap length r.text_is, report.length_over (accounted bs terms v k) out)
