-- A beginning and an end of a trace are traces. So what is shown of every trace holds of every stretch of one.
-- Assumes nothing.
use Prim.Native.Nat.{ℕ}
use mathlib.Core.List.{List, [], ◌∷◌, ◌++◌}
use Rattle.temporal.specs.FirstNext.{Question, list_of}
use Rattle.temporal.specs.Trace.{Event, called, wrote, overwritten, Trace}

-- a beginning of a trace is a trace
pub trace_beginning : (q : Question) (b : List ℕ) (es fs : List Event) → Trace q b (es ++ fs) → Trace q b es
unfolding Trace
trace_beginning q b [] fs t = tt
trace_beginning q b (called c r after ∷ es) fs t = (t.0, t.1, trace_beginning q after es fs t.2)
trace_beginning q b (wrote behind ∷ es) fs t =
    (t.0, trace_beginning q (overwritten (list_of q) behind b) es fs t.1)

-- an end of a trace is a trace, from the buffer there
pub trace_end : (q : Question) (b : List ℕ) (es fs : List Event) → Trace q b (es ++ fs) → (d : List ℕ) × Trace q d fs
unfolding Trace
trace_end q b [] fs t = (b, t)
trace_end q b (called c r after ∷ es) fs t = trace_end q after es fs t.2
trace_end q b (wrote behind ∷ es) fs t = trace_end q (overwritten (list_of q) behind b) es fs t.1

-- a stretch of a trace is a trace, from the buffer there
pub trace_stretch : (q : Question) (b : List ℕ) (ds es fs : List Event) → Trace q b (ds ++ (es ++ fs))
    → (d : List ℕ) × Trace q d es
trace_stretch q b ds es fs t =
    let rest = trace_end q b ds (es ++ fs) t in
    (rest.0, trace_beginning q rest.0 es fs rest.1)
