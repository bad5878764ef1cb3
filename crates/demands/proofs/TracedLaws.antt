-- Every listing has a trace: a call's answer and the buffer after it are those that its contract names, and since a move
-- keeps the buffer's length, the next deed is allowed too. Assumes nothing.
use Prim.Native.Nat.{ℕ, ◌-◌, ◌≤◌}
use native.Mathlib.Omega.{arith}
use mathlib.Core.Path.{◌≡◌, refl, sym, ap, ap₂, ◌∙◌}
use mathlib.Core.List.{List, [], ◌∷◌, ◌++◌}
use lib.ListN.{length, take, drop, length-append, length-take}
use lib.Seq.{length-take-le, length_front, take_at, drop_at}
use Rattle.temporal.specs.Cursor.{Reply}
use Rattle.temporal.specs.FirstNext.{Question, list_of, way_answer}
use Rattle.temporal.specs.Trace.{Call, cause_of, called, wrote, kept_of, overwritten, Meets, Trace, Asked}
use Rattle.trace.proofs.LengthLaws.{move_length}
use Rattle.trace.proofs.TraceFollows.{list_of_paths_law, kept_within_slots, slots_lent, answer_moves}
use Rattle.demands.specs.Listing.{calls, writes, Allowed, deeds_of, EveryListingTraced}

-- ---- a call

-- what answers a call that a listing allows
record Answered (c : Call) (b work : List ℕ) : Type 0 where
  reply : Reply
  after : List ℕ
  meets : Meets c b reply after
  area : meets.work ≡ work
  same_length : length after ≡ length b

answered : (q : Question) → Asked q → (c : Call) (b work : List ℕ) → c.lent ≤ length b → length work ≡ c.work
    → (cause_of c ≡ 0 → c.question ≡ q)
    → Answered c b work
unfolding cause_of
answered q asked c b work inside size names =
    let lent = take c.lent b in
    let a = way_answer c.operation c.question lent work in
    let lent_size : length lent ≡ c.lent = length-take-le c.lent b inside in
    let enough : cause_of c ≡ 0 → kept_of (list_of q) ≤ c.lent =
    λ e. omega (arith, kept_within_slots q asked, slots_lent c e, ap (λ p. p.slots) (names e)) in
    let moved = rw (lent_size, size) at (answer_moves c.operation c.question lent work).way in
    let kept : length a.way ≡ c.lent =
    ap length moved ∙
    move_length (list_of_paths_law q asked) c.operation (cause_of c) (list_of c.question) _ lent
    (λ e. (ap list_of (names e), rw lent_size (enough e))) ∙
    lent_size in
    let after = a.way ++ drop c.lent b in
    record {
      reply = a.reply;
      after = after;
      meets = record {
        within = inside;
        work = work;
        work_after = a.work;
        work_length = size;
        contract = rw (take_at a.way (drop c.lent b) c.lent kept) refl;
        rest = drop_at a.way (drop c.lent b) c.lent kept;
      };
      area = refl;
      same_length = length_front b a.way c.lent (kept ∙ sym lent_size);
    }

-- ---- a listing

-- a write of all entries behind the pair's hops keeps the buffer's length
write_length : (l : List (List ℕ)) (behind b : List ℕ) → length behind ≡ length b - kept_of l
    → length (overwritten l behind b) ≡ length b
unfolding overwritten
write_length l behind b e = simp (length-append, length-take) (omega arith)

pub every_listing_traced : EveryListingTraced
unfolding Allowed Trace deeds_of
every_listing_traced q asked b [] a = ([], tt, refl)
every_listing_traced q asked b (calls c work ∷ ds) a =
    let m = answered q asked c b work a.0 a.1 a.2 in
    let (es, t, same) = every_listing_traced q asked m.after ds (rw m.same_length a.3) in
    (called c m.reply m.after ∷ es, (m.meets, a.2, t), ap₂ (λ w ds. calls c w ∷ ds) m.area same)
every_listing_traced q asked b (writes behind ∷ ds) a =
    let size = write_length (list_of q) behind b a.0 in
    let (es, t, same) = every_listing_traced q asked (overwritten (list_of q) behind b) ds (rw size a.1) in
    (wrote behind ∷ es, (size, t), ap (◌∷◌ (writes behind)) same)
