-- What document 01's program prints of a whole stream, as a function of all its bytes. Definitions only.
--
-- The log of some bytes depends on what came before them: an aligner a, a store, and f frames; and on the lengths of the work and the marks that are lent.
use Rattle.std.specs.Prelude.{ℕ, zero, suc, ◌+◌, Bool, true, false, List, ltb, eqb, length, drop}
use Rattle.lists.specs.Lists.{tab}
use Rattle.lists.specs.Marked.{pick}
use Rattle.settings.specs.Settings.{defaults_of}
use Rattle.aligner.specs.Aligner.{fresh_of, estimate_of, store_after}
use Rattle.aligner.specs.declared.EccAligner.{EccAligner}
use Rattle.records.specs.Reading.{next_of}
use Rattle.records.specs.declared.Record.{Record}
use Rattle.records.specs.declared.Record.TheVariants.{More, Settings, Frame, Large, Other, Broken}
use Rattle.lines.specs.Lines.{line_of}
use Rattle.stream.specs.Stream.{too_large, pixels_of}
use Rattle.stream.specs.declared.End.{End}
use Rattle.stream.specs.declared.End.TheVariants.{Done, Cut}
use Rattle.lines.specs.declared.Line.{Line}

-- frames' lines, and the last line
pub data Log : Type 0 where
  line : Line → Log → Log
  last : End → Log

abbrev pub Reader : Type 0
Reader = EccAligner → List ℕ → ℕ → List ℕ → Log

-- n bytes are read over, and then a frame that was too large is answered 13, its sides not looked at; too few bytes are a broken record
unfoldable pub past : (ℕ → List ℕ → Log) → Bool → ℕ → ℕ → List ℕ → Log
past rec large n f s =
    pick (ltb (length s) n) (last (Cut f)) (pick large (line (line_of f too_large 0 0) (rec (f + 1) (drop n s))) (rec f (drop n s)))

-- a record at the start of s, and then what rec says of the bytes after it
unfoldable pub from : ℕ → ℕ → Reader → EccAligner → List ℕ → ℕ → List ℕ → Record → Log
from work marks rec a store f s More = last (Cut f)
from work marks rec a store f s (Settings cfg) = rec (fresh_of cfg) store f (drop 20 s)
from work marks rec a store f s (Frame w h n) =
    let reply = estimate_of a (pixels_of s n) w h store work marks in
    line (line_of f reply.outcome w h) (rec reply.aligner (store_after (pixels_of s n) w h store) (f + 1) (drop (10 + n) s))
from work marks rec a store f s (Large n) = past (rec a store) true n f (drop 6 s)
from work marks rec a store f s (Other n) = past (rec a store) false n f (drop 6 s)
from work marks rec a store f s Broken = last (Cut f)

-- of t records at the most
unfoldable pub log_n : ℕ → ℕ → ℕ → Reader
log_n work marks zero a store f s = last (Cut f)
log_n work marks (suc t) a store f s = pick (eqb (length s) 0) (last (Done f)) (from work marks (log_n work marks t) a store f s (next_of s))

-- each record takes bytes, so there are no more records than bytes
unfoldable pub log_from : ℕ → ℕ → Reader
log_from work marks a store f s = log_n work marks (suc (length s)) a store f s

-- THE LOG of a whole stream: the defaults, nothing remembered, no frame; 12,288 floats, 1,024 marks, a store of 1,024 bytes
unfoldable pub log_of : List ℕ → Log
log_of s = log_from 12288 16 (fresh_of defaults_of) (tab 1024 (λ _. 0)) 0 s
