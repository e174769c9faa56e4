use Rattle.std.proofs.lemmas.List.Sums.{prefix_len-le-length}
use Rattle.blif_reader.proofs.Lexing.{bare, tokens-bare}
use Rattle.blif_reader.specs.Tokens.{is_blank}
use Rattle.blif_reader.proofs.tokens.skip_blanks.Goals as goal

pub split_at-requires : goal.split_at-requires
split_at-requires c = rw c.blank_len.ensures (prefix_len-le-length is_blank c.args.bytes.now)

pub returns-clause-same : goal.returns-clause-same
returns-clause-same c = rw (c.split_at.ensures.back, c.blank_len.ensures) (tokens-bare c.args.bytes.now)

pub returns-clause-bare : goal.returns-clause-bare
returns-clause-bare c = rw (c.split_at.ensures.back, c.blank_len.ensures) (bare c.args.bytes.now)
