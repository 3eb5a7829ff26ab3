use Rattle.std.proofs.Common.{◌≡◌, ◌<◌, ◌+◌, length, take, arith}
use Rattle.ada_lexer.specs.declared.lexing.TheConstants.{LIMIT}
use Rattle.std.proofs.lemmas.List.{length-take-le}
use Rattle.flow_driver.proofs.TooLong.{long_report}
use Rattle.flow_driver.proofs.laws.cut_sources.Goals as goal

pub returns : goal.returns
returns c bytes r long =
    let is : length (take (LIMIT + 1) bytes) ≡ (LIMIT + 1) = length-take-le (LIMIT + 1) bytes (omega arith) in
    let cut : LIMIT < length (take (LIMIT + 1) bytes) = omega arith in
    (long_report bytes (take (LIMIT + 1) bytes) r long cut, long_report (take (LIMIT + 1) bytes) bytes r cut long)
