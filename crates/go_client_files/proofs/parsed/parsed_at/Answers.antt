use Rattle.std.proofs.Common.{ℕ, List, subst}
use Rattle.std.specs.Prelude.{IfOk}
use Rattle.go_client_files.proofs.ParsedFiles.{bad_bytes, parsed_as}
use Rattle.go_client_files.specs.inner.Causes.{Causes, HasBadText, HasBadTokens, IsParsedOf}
use Rattle.go_syntax.specs.declared.token.Token.{Token}
use Rattle.go_syntax.specs.lexical.Tokens.{IsTokens}
use Rattle.go_units.proofs.Results.{if_err_as}
use Rattle.go_client_files.proofs.parsed.parsed_at.Goals as goal

pub returns-clause-ok : goal.returns-clause-ok
returns-clause-ok c =
    parsed_as c.args.file.now c.in-Ok.tokens c.args.path c.parsed_tokens.result c.requires.path (subst (λ (w : List ℕ). IsTokens w c.in-Ok.tokens) c.bytes.ensures c.in-Ok.ensures.tokens) c.parsed_tokens.ensures.path
    (subst (λ (ts : List Token). IfOk c.parsed_tokens.result (IsParsedOf ts)) c.items.ensures c.parsed_tokens.ensures.ok)

pub returns-clause-cause : goal.returns-clause-cause
returns-clause-cause c =
    if_err_as (Causes (HasBadTokens c.items.result.now)) (Causes (HasBadText c.args.file.now.bytes))
    (λ e k. bad_bytes c.args.file.now.bytes c.in-Ok.tokens (subst (λ (w : List ℕ). IsTokens w c.in-Ok.tokens) c.bytes.ensures c.in-Ok.ensures.tokens) e (subst (λ (ts : List Token). Causes (HasBadTokens ts) e) c.items.ensures k))
    c.parsed_tokens.result c.parsed_tokens.ensures.cause
