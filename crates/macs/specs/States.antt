-- What contracts see of the states of messages.
use Rattle.macs.specs.Authentication.{Authentication}
use Rattle.macs.specs.KeyedMessage.{KeyedMessage}
use Rattle.macs.specs.declared.mechanism.Mechanism.{Mechanism}
use Rattle.macs.specs.declared.mechanism.Mechanism.TheVariants.{AesCmac, Sha224Hmac, Sha256Hmac, Sha384Hmac, Sha512Hmac}
use Rattle.macs.specs.declared.state.State.{State}
use Rattle.macs.specs.declared.state.State.TheVariants.{Cmac, Hmac224, Hmac256, Hmac384, Hmac512}

abbrev pub of_message : Mechanism → KeyedMessage → Authentication
of_message mechanism m = record { mechanism = mechanism; key = m.key; taken = m.taken }

abbrev pub authentication : State → Authentication
authentication (Cmac m) = of_message AesCmac m
authentication (Hmac224 m) = of_message Sha224Hmac m
authentication (Hmac256 m) = of_message Sha256Hmac m
authentication (Hmac384 m) = of_message Sha384Hmac m
authentication (Hmac512 m) = of_message Sha512Hmac m
