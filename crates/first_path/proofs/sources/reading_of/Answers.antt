use Rattle.first_path.proofs.Inside.{tokens_inside}
use Rattle.first_path.proofs.sources.reading_of.Goals as goal

pub spelled_by-requires : goal.spelled_by-requires
spelled_by-requires c =
    tokens_inside c.args.file c.args.bytes c.in-Ok.tokens.source c.in-Ok.tokens.list c.in-Ok.ensures.list c.in-Ok.ensures.source
    (c.tokens_in_order.ensures c.args.file c.args.bytes)
