-- What the objects that never fail tell.
use Rattle.std.specs.Prelude.{ℕ, List, Some}
use Rattle.std.specs.declared.option.Option.{Option}
use Rattle.source_io.specs.declared.memory_files.CleanFiles.{CleanFiles}
use Rattle.source_io.specs.declared.memory_sink.CleanSink.{CleanSink}

-- the files, each a name and its bytes
abbrev pub files_told : CleanFiles → Option (List (List ℕ × List ℕ))
files_told files = Some files.list.items

-- the names that were asked for
abbrev pub names_asked : CleanFiles → Option (List (List ℕ))
names_asked files = Some files.asked

-- the bytes that were taken so far
abbrev pub bytes_held : CleanSink → Option (List ℕ)
bytes_held sink = Some sink.bytes.items
