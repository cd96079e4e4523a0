use Rattle.std.proofs.Common.{ap, ◌∙◌, length}
use Rattle.macs.specs.Tags.{tag_of}
use Rattle.macs.specs.States.{authentication}
use Rattle.macs.specs.declared.mechanism.Mechanism.TheVariants.{AesCmac, Sha224Hmac, Sha256Hmac, Sha384Hmac, Sha512Hmac}
use Rattle.macs.proofs.TagLengths.{length-tag_under}
use Rattle.macs.proofs.state.State.mechanism.Goals as goal

pub returns-in-Cmac-clause-length : goal.returns-in-Cmac-clause-length
returns-in-Cmac-clause-length c =
    ap (λ s. length (tag_of (authentication s))) c.in-Cmac.is
    ∙ length-tag_under AesCmac c.in-Cmac.stream.key c.in-Cmac.stream.taken c.is_keyed.ensures

pub returns-in-Hmac224-clause-length : goal.returns-in-Hmac224-clause-length
returns-in-Hmac224-clause-length c =
    ap (λ s. length (tag_of (authentication s))) c.in-Hmac224.is
    ∙ length-tag_under Sha224Hmac c.in-Hmac224.field-0.key c.in-Hmac224.field-0.taken tt

pub returns-in-Hmac256-clause-length : goal.returns-in-Hmac256-clause-length
returns-in-Hmac256-clause-length c =
    ap (λ s. length (tag_of (authentication s))) c.in-Hmac256.is
    ∙ length-tag_under Sha256Hmac c.in-Hmac256.field-0.key c.in-Hmac256.field-0.taken tt

pub returns-in-Hmac384-clause-length : goal.returns-in-Hmac384-clause-length
returns-in-Hmac384-clause-length c =
    ap (λ s. length (tag_of (authentication s))) c.in-Hmac384.is
    ∙ length-tag_under Sha384Hmac c.in-Hmac384.field-0.key c.in-Hmac384.field-0.taken tt

pub returns-in-Hmac512-clause-length : goal.returns-in-Hmac512-clause-length
returns-in-Hmac512-clause-length c =
    ap (λ s. length (tag_of (authentication s))) c.in-Hmac512.is
    ∙ length-tag_under Sha512Hmac c.in-Hmac512.field-0.key c.in-Hmac512.field-0.taken tt
