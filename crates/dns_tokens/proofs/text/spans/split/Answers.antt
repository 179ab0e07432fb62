use Rattle.dns_tokens.proofs.SpanSteps.{split_span, edge_of}
use Rattle.dns_tokens.proofs.text.spans.split.Goals as goal

pub split_at-requires : goal.split_at-requires
split_at-requires c = edge_of c.args.kind c.front_len.ensures c.utf8.text

pub returns-clause-span : goal.returns-clause-span
returns-clause-span c = split_span c.front_len.ensures c.split_at.ensures.front c.split_at.ensures.back
