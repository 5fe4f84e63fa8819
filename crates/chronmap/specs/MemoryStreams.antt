-- What a call of a stream in memory does (own).
use Rattle.std.specs.Prelude.{◌≡◌, ◌≤◌, ℕ, List, Some, min, Contains, IfOk, MatchResult, Result}
use Rattle.cm_plain.specs.declared.stop.Failed.{Failed}
use Rattle.chronmap.specs.declared.memory.Calls.{Calls}
use Rattle.chronmap.specs.declared.memory.SliceSource.{SliceSource}
use Rattle.chronmap.specs.declared.memory.VecSink.{VecSink}
use Rattle.chronmap.specs.Streams.{StreamView, next_count}

-- the calls that are to fail, by their numbers from 0 on, and how many calls there were and failed
pub record CallsView : Type 0 where
  pub failing : List ℕ
  pub number : ℕ
  pub faults : ℕ

abbrev pub calls_view : Calls → CallsView
calls_view calls = record { failing = calls.failing.items; number = calls.number; faults = calls.faults }

-- the next call is to fail
abbrev pub IsToFail : CallsView → Type 0
IsToFail calls = Contains calls.failing calls.number

-- a call with this result was counted
pub record CountsCall {T : Type 0} (old new : CallsView) (result : Result T Failed) : Type 0 where
  pub failing_same : new.failing ≡ old.failing
  pub number_next : new.number ≡ next_count old.number
  pub no_fewer : old.faults ≤ new.faults
  pub faults : MatchResult result (λ _. new.faults ≡ old.faults) (λ _. new.faults ≡ next_count old.faults)

-- its bytes, the most that one call moves, and its calls
pub record MemoryStream : Type 0 where
  pub bytes : List ℕ
  pub piece : ℕ
  pub calls : CallsView

-- one that had no call
abbrev pub new_stream : List ℕ → ℕ → List ℕ → MemoryStream
new_stream bytes piece failing = record { bytes = bytes; piece = piece; calls = record { failing = failing; number = 0; faults = 0 } }

abbrev pub slice_stream : SliceSource → MemoryStream
slice_stream source = record { bytes = source.bytes.now; piece = source.piece; calls = calls_view source.calls }

abbrev pub vec_stream : VecSink → MemoryStream
vec_stream sink = record { bytes = sink.held.items; piece = sink.piece; calls = calls_view sink.calls }

-- contracts of streams see its bytes and its count of faults
abbrev pub seen_of : MemoryStream → StreamView
seen_of stream = record { bytes = Some stream.bytes; faults = stream.calls.faults }

-- a call that was counted moved a whole piece, or all of the bytes that could be moved
pub record MovesPiece (old new : MemoryStream) (most : ℕ) (result : Result ℕ Failed) : Type 0 where
  pub count : IfOk result (λ n. n ≡ min old.piece most)
  pub piece_same : new.piece ≡ old.piece
  pub calls : CountsCall old.calls new.calls result
