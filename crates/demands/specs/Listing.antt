-- Document 01's listing, the caller's part of it alone: the calls, each with the work area that is lent, and the caller's
-- writes; no answers. Definitions only.
-- Assumes nothing.
use Rattle.std.specs.Prelude.{ℕ, ◌-◌, ◌≤◌, ◌≡◌, List, [], ◌∷◌, length}
use Rattle.temporal.specs.FirstNext.{Question, list_of}
use Rattle.temporal.specs.Trace.{Call, cause_of, Event, called, wrote, kept_of, overwritten, Trace, Asked}

-- what a caller does: a call with its work area, or a write of the entries behind the pair's hops
pub data Deed : Type 0 where
  calls : Call → List ℕ → Deed
  writes : List ℕ → Deed

-- What a listing about q allows on a way buffer of k entries: each call is lent a beginning of it, and a work area of the
-- length named, and names q unless it has a cause of refusal other than 10; a write gives all entries behind the pair's
-- hops, and no others.
unfoldable pub Allowed : Question → ℕ → List Deed → Type 0
Allowed q k [] = Unit {0}
Allowed q k (calls c work ∷ ds) =
    (c.lent ≤ k) × (length work ≡ c.work) × (cause_of c ≡ 0 → c.question ≡ q) × Allowed q k ds
Allowed q k (writes behind ∷ ds) = (length behind ≡ k - kept_of (list_of q)) × Allowed q k ds

-- what the caller did in a trace: its events without answers, and without the buffers after them
unfoldable pub deeds_of : (q : Question) (b : List ℕ) (es : List Event) → Trace q b es → List Deed
unfolding Trace
deeds_of q b [] t = []
deeds_of q b (called c r after ∷ es) t = calls c t.0.work ∷ deeds_of q after es t.2
deeds_of q b (wrote behind ∷ es) t = writes behind ∷ deeds_of q (overwritten (list_of q) behind b) es t.1

-- every list of deeds that a listing allows, from any buffer, is what the caller did in some trace
abbrev pub EveryListingTraced : Type 0
EveryListingTraced =
    (q : Question) → Asked q → (b : List ℕ) (ds : List Deed) → Allowed q (length b) ds →
    (es : List Event) × (t : Trace q b es) × (deeds_of q b es t ≡ ds)
