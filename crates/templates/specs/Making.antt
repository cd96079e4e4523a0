-- The calls that a template is given to, and the columns of the table of attributes that are theirs.
use Rattle.attrs.specs.declared.table.AttributeRow.{AttributeRow}
use Rattle.attrs.specs.declared.table.Rule.{Rule}
use Rattle.templates.specs.declared.making.Making.{Making}
use Rattle.templates.specs.declared.making.Making.TheVariants as making

abbrev pub rule : Making → AttributeRow → Rule
rule making.Create r = r.create
rule (making.Generate mechanism) r = r.generate
rule (making.Unwrap len) r = r.unwrap
rule making.Copy r = r.copy
rule making.Set r = r.set
