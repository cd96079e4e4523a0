use Rattle.std.proofs.Common.{◌≡◌, ◌⊎◌, sym, ap, subst, ◌∙◌, refl}
use Rattle.sqlite.specs.Held.{Held}
use Rattle.sqlite.specs.Files.{file_state}
use Rattle.pin_record.specs.Records.{TokenRecord, new_record}
use Rattle.keep.specs.Contents.{new_contents}
use Rattle.keep_sql_model.specs.OpenedFile.{HasNoRoom, IsInFile}
use Rattle.keep_sql_model.specs.Opening.{Opened}
use Rattle.keep_sql_model.proofs.Copies.{opened_copy}
use Rattle.keep_sql.proofs.files.settle.Goals as goal

pub returns-in-Err-clause-leaves : goal.returns-in-Err-clause-leaves
returns-in-Err-clause-leaves g c = (c.in-Err.fault, refl, c.in-Err.ensures.back)

pub returns-in-Ok-copied-clause-opened : goal.returns-in-Ok-copied-clause-opened
returns-in-Ok-copied-clause-opened g c =
    let was = file_state c.args.conn in
    let first = subst (λ (h : Held _). Opened was (file_state h) c.into_parts-conn.result.1) (sym c.into_parts-conn.ensures.0)
    (subst (λ (r : TokenRecord). Opened was (file_state c.in-Ok.keep.conn) r)
    (sym c.into_parts-conn.ensures.1) c.in-Ok.ensures.opened) in
    let made = opened_copy was _ (file_state c.in-Ok-copied.conn) _ first c.in-Ok-copied.ensures.ok in
    subst (λ (h : Held _). Opened was (file_state h) c.with_record.result.token_record) (sym c.with_record.ensures.is.0)
    (subst (λ (r : TokenRecord). Opened was (file_state c.in-Ok-copied.conn) r) (sym c.with_record.ensures.is.1) made)

pub returns-in-Ok-copied-clause-file : goal.returns-in-Ok-copied-clause-file
returns-in-Ok-copied-clause-file g c =
    subst (λ (h : Held _). IsInFile h ⊎ HasNoRoom h) (sym c.with_record.ensures.is.0) c.in-Ok-copied.ensures.file

pub returns-in-Ok-copied-clause-found : goal.returns-in-Ok-copied-clause-found
returns-in-Ok-copied-clause-found g c = λ d h clean.
    let was = file_state c.args.conn in
    let first = subst (λ (h : Held _). Opened was (file_state h) c.into_parts-conn.result.1) (sym c.into_parts-conn.ensures.0)
    (subst (λ (r : TokenRecord). Opened was (file_state c.in-Ok.keep.conn) r)
    (sym c.into_parts-conn.ensures.1) c.in-Ok.ensures.opened) in
    let made = opened_copy was _ (file_state c.in-Ok-copied.conn) _ first c.in-Ok-copied.ensures.ok in
    let sure = rw c.with_record.ensures.is.0 at clean in
    let it = made.held d h sure in
    c.with_record.ensures.adopts d sure it.0 it.1 it.2

pub returns-in-Ok-copied-clause-fresh : goal.returns-in-Ok-copied-clause-fresh
returns-in-Ok-copied-clause-fresh g c = λ none clean.
    let was = file_state c.args.conn in
    let first = subst (λ (h : Held _). Opened was (file_state h) c.into_parts-conn.result.1) (sym c.into_parts-conn.ensures.0)
    (subst (λ (r : TokenRecord). Opened was (file_state c.in-Ok.keep.conn) r)
    (sym c.into_parts-conn.ensures.1) c.in-Ok.ensures.opened) in
    let made = opened_copy was _ (file_state c.in-Ok-copied.conn) _ first c.in-Ok-copied.ensures.ok in
    let sure = rw c.with_record.ensures.is.0 at clean in
    let it = made.fresh none sure in
    c.with_record.ensures.adopts (new_contents new_record) sure it.0 it.1 it.2

pub returns-in-Err-copied-clause-leaves : goal.returns-in-Err-copied-clause-leaves
returns-in-Err-copied-clause-leaves g c =
    let was = file_state c.args.conn in (
      c.into_parts-conn.result.0,
      c.into_parts-conn.result.1,
      subst (λ (h : Held _). Opened was (file_state h) c.into_parts-conn.result.1) (sym c.into_parts-conn.ensures.0)
          (subst (λ (r : TokenRecord). Opened was (file_state c.in-Ok.keep.conn) r)
          (sym c.into_parts-conn.ensures.1) c.in-Ok.ensures.opened),
      c.in-Err-copied.ensures.left,
      (c.in-Err-copied.error, refl, c.in-Err-copied.ensures.cause),
    )
