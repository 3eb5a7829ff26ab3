-- What the top call reads, prints and answers.
use Rattle.std.specs.Prelude.{◌≡◌, ℕ, ◌+◌, ◌<◌, ◌==◌, List, [], ◌∷◌, ◌++◌, Bool, true}
use Rattle.std.specs.Prelude.{false, if◌then◌else◌, not, nat_lt, length, take, codes, None, Some, IfSome}
use Rattle.std.specs.List.{list_any}
use Rattle.std.specs.declared.option.Option.{Option}
use Rattle.std.specs.Option.{option_map}
use Rattle.source_io.specs.Files.{file_of}
use Rattle.source_io.specs.Counts.{Rose, Grew}
use Rattle.spark_messages.specs.declared.messages.Message.{Message}
use Rattle.flow_driver.specs.declared.report.Report.{Report}
use Rattle.ada_lexer.specs.declared.lexing.TheConstants.{LIMIT}
use Rattle.spark_messages.specs.Message.{is_grave}
use Rattle.flow_driver.specs.Report.{IsReport}
use Rattle.flow_driver.specs.Runs.{HaveCleanRuns}
use Rattle.spark_messages.specs.Text.{text}

-- a word that names a file does not begin with a dash
abbrev pub is_name : List ℕ → Bool
is_name [] = true
is_name (byte ∷ bytes) = not (byte == 45)

-- words are accepted where there is exactly one, and it names a file
abbrev pub are_accepted : List (List ℕ) → Bool
are_accepted [] = false
are_accepted (word ∷ []) = is_name word
are_accepted (word ∷ next ∷ words) = false

-- a file, and the files read behind it; a file that is too long is cut behind the limit, and ends the reading
abbrev pub read_on : Option (List ℕ) → Option (List (List ℕ)) → Option (List (List ℕ))
read_on None rest = None
read_on (Some bytes) rest =
    if nat_lt LIMIT (length bytes) then Some (take (LIMIT + 1) bytes ∷ []) else option_map (λ more. bytes ∷ more) rest

-- the sources of names, where none is absent
abbrev pub sources_of : List (List ℕ × List ℕ) → Bool → List (List ℕ) → Option (List (List ℕ))
sources_of files gaps [] = Some []
sources_of files gaps (name ∷ names) = read_on (file_of files gaps name) (sources_of files gaps names)

-- these are the sources of the names, where the files are told
abbrev pub AreSources : Option (List (List ℕ × List ℕ)) → Bool → List (List ℕ) → List (List ℕ) → Type 0
AreSources told gaps names sources = IfSome told (λ files. sources_of files gaps names ≡ Some sources)

-- an error or a refusal is among the messages
abbrev pub has_errors : List Message → Bool
has_errors list = list_any (λ m. is_grave m.kind) list

-- 2 for refusals, 1 for a flow error, 0 for a report without an error
abbrev pub verdict : Report → ℕ
verdict r = if r.refused then 2 else if has_errors r.messages then 1 else 0

-- what is told grew by a front part of these
pub record GrewByPart {A : Type 0} (old : Option (List A)) (all : List A) (new : Option (List A)) : Type 0 where
  pub count : ℕ
  pub grew : Grew old (take count all) new

-- an analysis of the files of these names: the sources, which are the told ones where the files are told, and their report
pub record Analysis {D : Type 0} (told : D → Option (List (List ℕ × List ℕ))) (gaps : D → Bool)
    (names : List (List ℕ)) (files : D) : Type 0 where
  pub sources : List (List ℕ)
  pub report : Report
  pub are_told : AreSources (told files) (gaps files) names sources
  pub is_report : IsReport sources report

module _ {D : Type 0} {told : D → Option (List (List ℕ × List ℕ))} {gaps : D → Bool} {names : List (List ℕ)} {files : D} where
  -- the whole text of an analysis was printed, and the status is its verdict; where that is 0, its sources have clean runs
  pub record IsPrinted (a : Analysis told gaps names files) (status : ℕ) (old new : Option (List ℕ)) : Type 0 where
    pub printed : Grew old (text names a.report.messages) new
    pub status_is : status ≡ verdict a.report
    pub clean : status ≡ 0 → HaveCleanRuns a.sources

  -- a front part of the text of an analysis was printed
  abbrev pub IsPartlyPrinted : Analysis told gaps names files → Option (List ℕ) → Option (List ℕ) → Type 0
  IsPartlyPrinted a old new = GrewByPart old (text names a.report.messages) new

-- a front part of the line was put, and all of it unless a count rose
pub record Complains {S : Type 0} (held : S → Option (List ℕ)) (faults wants : S → ℕ) (line : List ℕ) (old new : S) : Type 0 where
  pub part : GrewByPart (held old) line (held new)
  pub whole : (Rose (faults old) (faults new) → ⊥) → (Rose (wants old) (wants new) → ⊥) → Grew (held old) line (held new)

-- the answer comes only where the count rose or stands at its last value, and always where it rose
pub record IsCountedBy (answer : Type 0) (before now : ℕ) : Type 0 where
  pub only : answer → Rose before now
  pub always : before < now → answer

-- the line on a file that could not be read
abbrev pub unread_line : List ℕ → List ℕ
unread_line name = codes "sparkflow: cannot read " ++ (name ++ codes "\n")
