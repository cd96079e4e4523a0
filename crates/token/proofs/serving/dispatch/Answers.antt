use Rattle.std.proofs.Common.{refl, arith, sym, ◌∙◌, ap}
use Rattle.ck_calls.specs.declared.call.Call.TheVariants as call
use Rattle.model_answers.specs.Answers.{answer_to}
use Rattle.token.specs.Memory.{takes_no_memory}
use Rattle.token.proofs.Memory.{at-once, asked-at-once, none-is}
use Rattle.token.proofs.Dispatching.{call-done, call-asked, call-at-desk, call-asking, call-unchecked, random-few, still-init_pin}
use Rattle.token.proofs.serving.dispatch.Goals as goal

pub returns-in-CreateObject-clause-served : goal.returns-in-CreateObject-clause-served
unfolding answer_to
returns-in-CreateObject-clause-served g c =
    call-done g.K.Keep.terms c.args.app c.args.others_have_sessions c.args.call
    (call.CreateObject c.in-CreateObject.session c.in-CreateObject.template) c.args.random.now c.in-CreateObject.is 1
    c.args.store.now _ c.args.desk.now _ c.serve-in-CreateObject.result c.settle-in-CreateObject.result
    (omega arith) c.settle-in-CreateObject.ensures c.serve-in-CreateObject.ensures g.met.K.Keep.sure

pub returns-in-CopyObject-clause-served : goal.returns-in-CopyObject-clause-served
unfolding answer_to
returns-in-CopyObject-clause-served g c =
    call-done g.K.Keep.terms c.args.app c.args.others_have_sessions c.args.call
    (call.CopyObject c.in-CopyObject.session c.in-CopyObject.object c.in-CopyObject.template) c.args.random.now c.in-CopyObject.is 1
    c.args.store.now _ c.args.desk.now _ c.serve-in-CopyObject.result c.settle-in-CopyObject.result
    (omega arith) c.settle-in-CopyObject.ensures c.serve-in-CopyObject.ensures g.met.K.Keep.sure

pub returns-in-DestroyObject-clause-served : goal.returns-in-DestroyObject-clause-served
unfolding answer_to
returns-in-DestroyObject-clause-served g c =
    call-done g.K.Keep.terms c.args.app c.args.others_have_sessions c.args.call
    (call.DestroyObject c.in-DestroyObject.session c.in-DestroyObject.object) c.args.random.now c.in-DestroyObject.is 1
    c.args.store.now _ c.args.desk.now _ c.serve-in-DestroyObject.result c.settle-in-DestroyObject.result
    (omega arith) c.settle-in-DestroyObject.ensures c.serve-in-DestroyObject.ensures g.met.K.Keep.sure

pub returns-in-GetObjectSize-clause-served : goal.returns-in-GetObjectSize-clause-served
unfolding answer_to
returns-in-GetObjectSize-clause-served g c =
    call-done g.K.Keep.terms c.args.app c.args.others_have_sessions c.args.call
    (call.GetObjectSize c.in-GetObjectSize.session c.in-GetObjectSize.object) c.args.random.now c.in-GetObjectSize.is 0
    c.args.store.now _ c.args.desk.now _ c.serve-in-GetObjectSize.result c.settle-in-GetObjectSize.result
    (omega arith) c.settle-in-GetObjectSize.ensures c.serve-in-GetObjectSize.ensures g.met.K.Keep.sure

pub returns-in-GetAttributeValue-clause-served : goal.returns-in-GetAttributeValue-clause-served
unfolding answer_to
returns-in-GetAttributeValue-clause-served g c =
    call-done g.K.Keep.terms c.args.app c.args.others_have_sessions c.args.call
    (call.GetAttributeValue c.in-GetAttributeValue.session c.in-GetAttributeValue.object c.in-GetAttributeValue.query)
    c.args.random.now c.in-GetAttributeValue.is 0 c.args.store.now _ c.args.desk.now _ c.serve-in-GetAttributeValue.result
    c.settle-in-GetAttributeValue.result
    (omega arith) c.settle-in-GetAttributeValue.ensures c.serve-in-GetAttributeValue.ensures g.met.K.Keep.sure

pub returns-in-SetAttributeValue-clause-served : goal.returns-in-SetAttributeValue-clause-served
unfolding answer_to
returns-in-SetAttributeValue-clause-served g c =
    call-done g.K.Keep.terms c.args.app c.args.others_have_sessions c.args.call
    (call.SetAttributeValue c.in-SetAttributeValue.session c.in-SetAttributeValue.object c.in-SetAttributeValue.template)
    c.args.random.now c.in-SetAttributeValue.is 1 c.args.store.now _ c.args.desk.now _ c.serve-in-SetAttributeValue.result
    c.settle-in-SetAttributeValue.result
    (omega arith) c.settle-in-SetAttributeValue.ensures c.serve-in-SetAttributeValue.ensures g.met.K.Keep.sure

pub returns-in-FindObjectsInit-clause-served : goal.returns-in-FindObjectsInit-clause-served
unfolding answer_to
returns-in-FindObjectsInit-clause-served g c =
    call-done g.K.Keep.terms c.args.app c.args.others_have_sessions c.args.call
    (call.FindObjectsInit c.in-FindObjectsInit.session c.in-FindObjectsInit.template) c.args.random.now c.in-FindObjectsInit.is 0
    c.args.store.now _ c.args.desk.now _ c.serve-in-FindObjectsInit.result c.settle-in-FindObjectsInit.result
    (omega arith) c.settle-in-FindObjectsInit.ensures c.serve-in-FindObjectsInit.ensures g.met.K.Keep.sure

pub returns-in-FindObjects-clause-served : goal.returns-in-FindObjects-clause-served
unfolding answer_to
returns-in-FindObjects-clause-served g c =
    call-at-desk g.K.Keep.terms c.args.app c.args.others_have_sessions c.args.call
    (call.FindObjects c.in-FindObjects.session c.in-FindObjects.max_count) c.args.random.now c.in-FindObjects.is c.args.store.now
    c.args.desk.now _ c.serve-in-FindObjects.result c.settle-in-FindObjects.result refl c.settle-in-FindObjects.ensures
    c.serve-in-FindObjects.ensures

pub returns-in-FindObjectsFinal-clause-served : goal.returns-in-FindObjectsFinal-clause-served
unfolding answer_to
returns-in-FindObjectsFinal-clause-served g c =
    call-at-desk g.K.Keep.terms c.args.app c.args.others_have_sessions c.args.call
    (call.FindObjectsFinal c.in-FindObjectsFinal.session) c.args.random.now c.in-FindObjectsFinal.is c.args.store.now
    c.args.desk.now _ c.serve_final.result c.settle-in-FindObjectsFinal.result refl c.settle-in-FindObjectsFinal.ensures
    c.serve_final.ensures.serves

pub returns-in-EncryptInit-clause-served : goal.returns-in-EncryptInit-clause-served
unfolding answer_to
returns-in-EncryptInit-clause-served g c =
    call-done g.K.Keep.terms c.args.app c.args.others_have_sessions c.args.call
    (call.EncryptInit c.in-EncryptInit.session c.in-EncryptInit.mechanism c.in-EncryptInit.key) c.args.random.now
    c.in-EncryptInit.is 0 c.args.store.now _ c.args.desk.now _ c.serve-in-EncryptInit.result c.settle-in-EncryptInit.result
    (omega arith) c.settle-in-EncryptInit.ensures c.serve-in-EncryptInit.ensures.done g.met.K.Keep.sure

pub returns-in-Encrypt-clause-served : goal.returns-in-Encrypt-clause-served
unfolding answer_to
returns-in-Encrypt-clause-served g c =
    call-asking g.K.Keep.terms c.args.app c.args.others_have_sessions c.args.call
    (call.Encrypt c.in-Encrypt.session c.in-Encrypt.data c.in-Encrypt.buffer_len) c.args.random.now c.in-Encrypt.is c.args.store.now
    c.args.desk.now _ c.serve_final-in-Encrypt.result c.settle-in-Encrypt.result refl c.settle-in-Encrypt.ensures
    c.serve_final-in-Encrypt.ensures.asker c.serve_final-in-Encrypt.ensures.serves

pub returns-in-EncryptUpdate-clause-served : goal.returns-in-EncryptUpdate-clause-served
unfolding answer_to
returns-in-EncryptUpdate-clause-served g c =
    call-asking g.K.Keep.terms c.args.app c.args.others_have_sessions c.args.call
    (call.EncryptUpdate c.in-EncryptUpdate.session c.in-EncryptUpdate.part c.in-EncryptUpdate.buffer_len) c.args.random.now
    c.in-EncryptUpdate.is c.args.store.now c.args.desk.now _ c.update.result c.settle-in-EncryptUpdate.result refl
    c.settle-in-EncryptUpdate.ensures c.update.ensures.asker c.update.ensures.serves

pub returns-in-EncryptFinal-clause-served : goal.returns-in-EncryptFinal-clause-served
unfolding answer_to
returns-in-EncryptFinal-clause-served g c =
    call-asking g.K.Keep.terms c.args.app c.args.others_have_sessions c.args.call
    (call.EncryptFinal c.in-EncryptFinal.session c.in-EncryptFinal.buffer_len) c.args.random.now c.in-EncryptFinal.is
    c.args.store.now c.args.desk.now _ c.serve_final-in-EncryptFinal.result c.settle-in-EncryptFinal.result refl
    c.settle-in-EncryptFinal.ensures c.serve_final-in-EncryptFinal.ensures.asker c.serve_final-in-EncryptFinal.ensures.serves

pub returns-in-DecryptInit-clause-served : goal.returns-in-DecryptInit-clause-served
unfolding answer_to
returns-in-DecryptInit-clause-served g c =
    call-done g.K.Keep.terms c.args.app c.args.others_have_sessions c.args.call
    (call.DecryptInit c.in-DecryptInit.session c.in-DecryptInit.mechanism c.in-DecryptInit.key) c.args.random.now
    c.in-DecryptInit.is 0 c.args.store.now _ c.args.desk.now _ c.serve-in-DecryptInit.result c.settle-in-DecryptInit.result
    (omega arith) c.settle-in-DecryptInit.ensures c.serve-in-DecryptInit.ensures.done g.met.K.Keep.sure

pub returns-in-Decrypt-clause-served : goal.returns-in-Decrypt-clause-served
unfolding answer_to
returns-in-Decrypt-clause-served g c =
    call-asking g.K.Keep.terms c.args.app c.args.others_have_sessions c.args.call
    (call.Decrypt c.in-Decrypt.session c.in-Decrypt.encrypted_data c.in-Decrypt.buffer_len) c.args.random.now c.in-Decrypt.is
    c.args.store.now c.args.desk.now _ c.serve_final-in-Decrypt.result c.settle-in-Decrypt.result refl
    c.settle-in-Decrypt.ensures c.serve_final-in-Decrypt.ensures.asker c.serve_final-in-Decrypt.ensures.serves

pub returns-in-DecryptUpdate-clause-served : goal.returns-in-DecryptUpdate-clause-served
unfolding answer_to
returns-in-DecryptUpdate-clause-served g c =
    call-asking g.K.Keep.terms c.args.app c.args.others_have_sessions c.args.call
    (call.DecryptUpdate c.in-DecryptUpdate.session c.in-DecryptUpdate.encrypted_part c.in-DecryptUpdate.buffer_len)
    c.args.random.now c.in-DecryptUpdate.is c.args.store.now c.args.desk.now _ c.update-in-DecryptUpdate.result
    c.settle-in-DecryptUpdate.result refl c.settle-in-DecryptUpdate.ensures c.update-in-DecryptUpdate.ensures.asker
    c.update-in-DecryptUpdate.ensures.serves

pub returns-in-DecryptFinal-clause-served : goal.returns-in-DecryptFinal-clause-served
unfolding answer_to
returns-in-DecryptFinal-clause-served g c =
    call-asking g.K.Keep.terms c.args.app c.args.others_have_sessions c.args.call
    (call.DecryptFinal c.in-DecryptFinal.session c.in-DecryptFinal.buffer_len) c.args.random.now c.in-DecryptFinal.is
    c.args.store.now c.args.desk.now _ c.serve_final-in-DecryptFinal.result c.settle-in-DecryptFinal.result refl
    c.settle-in-DecryptFinal.ensures c.serve_final-in-DecryptFinal.ensures.asker c.serve_final-in-DecryptFinal.ensures.serves

pub returns-in-GetTokenInfo-clause-served : goal.returns-in-GetTokenInfo-clause-served
unfolding answer_to
returns-in-GetTokenInfo-clause-served g c =
    call-done g.K.Keep.terms c.args.app c.args.others_have_sessions c.args.call
    (call.GetTokenInfo c.in-GetTokenInfo.slot) c.args.random.now c.in-GetTokenInfo.is 0 c.args.store.now _ c.args.desk.now _
    c.serve.result c.settle.result (omega arith) c.settle.ensures c.serve.ensures.done g.met.K.Keep.sure

pub returns-in-InitToken-clause-served : goal.returns-in-InitToken-clause-served
unfolding answer_to
returns-in-InitToken-clause-served g c =
    call-asked g.K.Keep.terms c.args.app c.args.others_have_sessions c.args.call
    (call.InitToken c.in-InitToken.slot c.in-InitToken.pin c.in-InitToken.label) c.args.random.now c.in-InitToken.is 1
    (omega arith) c.args.store.now _ c.args.desk.now _ c.serve-in-InitToken.result c.settle-in-InitToken.result
    c.settle-in-InitToken.ensures
    c.serve-in-InitToken.ensures.asker c.serve-in-InitToken.ensures.done g.met.K.Keep.sure

pub returns-in-InitPin-clause-served : goal.returns-in-InitPin-clause-served
unfolding answer_to
returns-in-InitPin-clause-served g c =
    call-unchecked g.K.Keep.terms c.args.app c.args.others_have_sessions c.args.call
    (call.InitPin c.in-InitPin.session c.in-InitPin.pin) c.args.random.now c.in-InitPin.is c.args.store.now c.args.desk.now _
    c.serve-in-InitPin.result c.settle-in-InitPin.result
    (λ v. still-init_pin v c.in-InitPin.session c.in-InitPin.pin c.args.random.now) c.settle-in-InitPin.ensures
    c.serve-in-InitPin.ensures.asker c.serve-in-InitPin.ensures.serves

pub returns-in-SetPin-clause-served : goal.returns-in-SetPin-clause-served
unfolding answer_to
returns-in-SetPin-clause-served g c =
    call-asked g.K.Keep.terms c.args.app c.args.others_have_sessions c.args.call
    (call.SetPin c.in-SetPin.session c.in-SetPin.old_pin c.in-SetPin.new_pin) c.args.random.now c.in-SetPin.is 1
    (omega arith) c.args.store.now _ c.args.desk.now _ c.serve-in-SetPin.result c.settle-in-SetPin.result
    c.settle-in-SetPin.ensures c.serve-in-SetPin.ensures.asker c.serve-in-SetPin.ensures.done g.met.K.Keep.sure

pub returns-in-Login-clause-served : goal.returns-in-Login-clause-served
unfolding answer_to
returns-in-Login-clause-served g c =
    call-asked g.K.Keep.terms c.args.app c.args.others_have_sessions c.args.call
    (call.Login c.in-Login.session c.in-Login.user_type c.in-Login.pin) c.args.random.now c.in-Login.is 1
    (omega arith) c.args.store.now _ c.args.desk.now _ c.serve-in-Login.result c.settle-in-Login.result
    c.settle-in-Login.ensures c.serve-in-Login.ensures.asker c.serve-in-Login.ensures.done g.met.K.Keep.sure

pub returns-in-Logout-clause-served : goal.returns-in-Logout-clause-served
unfolding answer_to
returns-in-Logout-clause-served g c =
    call-at-desk g.K.Keep.terms c.args.app c.args.others_have_sessions c.args.call
    (call.Logout c.in-Logout.session) c.args.random.now c.in-Logout.is c.args.store.now c.args.desk.now _ c.serve-in-Logout.result
    c.settle-in-Logout.result refl c.settle-in-Logout.ensures c.serve-in-Logout.ensures.serves

pub returns-in-GetMechanismList-clause-served : goal.returns-in-GetMechanismList-clause-served
unfolding answer_to
returns-in-GetMechanismList-clause-served g c =
    call-at-desk g.K.Keep.terms c.args.app c.args.others_have_sessions c.args.call
    (call.GetMechanismList c.in-GetMechanismList.slot) c.args.random.now c.in-GetMechanismList.is c.args.store.now c.args.desk.now _
    c.serve-in-GetMechanismList.result c.settle-in-GetMechanismList.result refl c.settle-in-GetMechanismList.ensures
    (c.serve-in-GetMechanismList.ensures c.args.desk.now)

pub returns-in-GetMechanismInfo-clause-served : goal.returns-in-GetMechanismInfo-clause-served
unfolding answer_to
returns-in-GetMechanismInfo-clause-served g c =
    call-at-desk g.K.Keep.terms c.args.app c.args.others_have_sessions c.args.call
    (call.GetMechanismInfo c.in-GetMechanismInfo.slot c.in-GetMechanismInfo.mechanism) c.args.random.now c.in-GetMechanismInfo.is
    c.args.store.now c.args.desk.now _ c.serve-in-GetMechanismInfo.result c.settle-in-GetMechanismInfo.result refl
    c.settle-in-GetMechanismInfo.ensures (c.serve-in-GetMechanismInfo.ensures.serves c.args.desk.now)

pub returns-in-GenerateRandom-clause-served : goal.returns-in-GenerateRandom-clause-served
unfolding answer_to
returns-in-GenerateRandom-clause-served g c =
    call-at-desk g.K.Keep.terms c.args.app c.args.others_have_sessions c.args.call
    (call.GenerateRandom c.in-GenerateRandom.session c.in-GenerateRandom.len) c.args.random.now c.in-GenerateRandom.is
    c.args.store.now c.args.desk.now _ c.serve-in-GenerateRandom.result c.settle-in-GenerateRandom.result refl
    c.settle-in-GenerateRandom.ensures
    (record {
      serves = c.serve-in-GenerateRandom.ensures.serves;
      cause = c.serve-in-GenerateRandom.ensures.cause;
      short = λ _. c.serve-in-GenerateRandom.ensures.short
          (random-few c.args.call c.in-GenerateRandom.session c.in-GenerateRandom.len c.args.random.now c.in-GenerateRandom.is
          c.requires.random);
    })

pub returns-in-GenerateKey-clause-served : goal.returns-in-GenerateKey-clause-served
unfolding answer_to
returns-in-GenerateKey-clause-served g c =
    call-done g.K.Keep.terms c.args.app c.args.others_have_sessions c.args.call
    (call.GenerateKey c.in-GenerateKey.session c.in-GenerateKey.mechanism c.in-GenerateKey.template) c.args.random.now
    c.in-GenerateKey.is 1 c.args.store.now _ c.args.desk.now _ c.serve-in-GenerateKey.result c.settle-in-GenerateKey.result
    (omega arith) c.settle-in-GenerateKey.ensures c.serve-in-GenerateKey.ensures g.met.K.Keep.sure

pub returns-in-SignInit-clause-served : goal.returns-in-SignInit-clause-served
unfolding answer_to
returns-in-SignInit-clause-served g c =
    call-done g.K.Keep.terms c.args.app c.args.others_have_sessions c.args.call
    (call.SignInit c.in-SignInit.session c.in-SignInit.mechanism c.in-SignInit.key) c.args.random.now c.in-SignInit.is 0
    c.args.store.now _ c.args.desk.now _ c.serve-in-SignInit.result c.settle-in-SignInit.result
    (omega arith) c.settle-in-SignInit.ensures c.serve-in-SignInit.ensures.done g.met.K.Keep.sure

pub returns-in-VerifyInit-clause-served : goal.returns-in-VerifyInit-clause-served
unfolding answer_to
returns-in-VerifyInit-clause-served g c =
    call-done g.K.Keep.terms c.args.app c.args.others_have_sessions c.args.call
    (call.VerifyInit c.in-VerifyInit.session c.in-VerifyInit.mechanism c.in-VerifyInit.key) c.args.random.now c.in-VerifyInit.is 0
    c.args.store.now _ c.args.desk.now _ c.serve-in-VerifyInit.result c.settle-in-VerifyInit.result
    (omega arith) c.settle-in-VerifyInit.ensures c.serve-in-VerifyInit.ensures.done g.met.K.Keep.sure

pub returns-in-Sign-clause-served : goal.returns-in-Sign-clause-served
unfolding answer_to
returns-in-Sign-clause-served g c =
    call-asking g.K.Keep.terms c.args.app c.args.others_have_sessions c.args.call
    (call.Sign c.in-Sign.session c.in-Sign.data c.in-Sign.buffer_len) c.args.random.now c.in-Sign.is c.args.store.now
    c.args.desk.now _ c.sign.result c.settle-in-Sign.result refl c.settle-in-Sign.ensures c.sign.ensures.asker
    c.sign.ensures.serves

pub returns-in-SignUpdate-clause-served : goal.returns-in-SignUpdate-clause-served
unfolding answer_to
returns-in-SignUpdate-clause-served g c =
    call-asking g.K.Keep.terms c.args.app c.args.others_have_sessions c.args.call
    (call.SignUpdate c.in-SignUpdate.session c.in-SignUpdate.part) c.args.random.now c.in-SignUpdate.is c.args.store.now
    c.args.desk.now _ c.update-in-SignUpdate.result c.settle-in-SignUpdate.result refl c.settle-in-SignUpdate.ensures
    c.update-in-SignUpdate.ensures.asker c.update-in-SignUpdate.ensures.serves

pub returns-in-SignFinal-clause-served : goal.returns-in-SignFinal-clause-served
unfolding answer_to
returns-in-SignFinal-clause-served g c =
    call-asking g.K.Keep.terms c.args.app c.args.others_have_sessions c.args.call
    (call.SignFinal c.in-SignFinal.session c.in-SignFinal.buffer_len) c.args.random.now c.in-SignFinal.is c.args.store.now
    c.args.desk.now _ c.sign-in-SignFinal.result c.settle-in-SignFinal.result refl c.settle-in-SignFinal.ensures
    c.sign-in-SignFinal.ensures.asker c.sign-in-SignFinal.ensures.serves

pub returns-in-Verify-clause-served : goal.returns-in-Verify-clause-served
unfolding answer_to
returns-in-Verify-clause-served g c =
    call-asking g.K.Keep.terms c.args.app c.args.others_have_sessions c.args.call
    (call.Verify c.in-Verify.session c.in-Verify.data c.in-Verify.signature) c.args.random.now c.in-Verify.is c.args.store.now
    c.args.desk.now _ c.verify.result c.settle-in-Verify.result refl c.settle-in-Verify.ensures c.verify.ensures.asker
    c.verify.ensures.serves

pub returns-in-VerifyUpdate-clause-served : goal.returns-in-VerifyUpdate-clause-served
unfolding answer_to
returns-in-VerifyUpdate-clause-served g c =
    call-asking g.K.Keep.terms c.args.app c.args.others_have_sessions c.args.call
    (call.VerifyUpdate c.in-VerifyUpdate.session c.in-VerifyUpdate.part) c.args.random.now c.in-VerifyUpdate.is c.args.store.now
    c.args.desk.now _ c.update-in-VerifyUpdate.result c.settle-in-VerifyUpdate.result refl
    c.settle-in-VerifyUpdate.ensures c.update-in-VerifyUpdate.ensures.asker c.update-in-VerifyUpdate.ensures.serves

pub returns-in-VerifyFinal-clause-served : goal.returns-in-VerifyFinal-clause-served
unfolding answer_to
returns-in-VerifyFinal-clause-served g c =
    call-asking g.K.Keep.terms c.args.app c.args.others_have_sessions c.args.call
    (call.VerifyFinal c.in-VerifyFinal.session c.in-VerifyFinal.signature) c.args.random.now c.in-VerifyFinal.is c.args.store.now
    c.args.desk.now _ c.verify-in-VerifyFinal.result c.settle-in-VerifyFinal.result refl c.settle-in-VerifyFinal.ensures
    c.verify-in-VerifyFinal.ensures.asker c.verify-in-VerifyFinal.ensures.serves

pub returns-in-WrapKey-clause-served : goal.returns-in-WrapKey-clause-served
unfolding answer_to
returns-in-WrapKey-clause-served g c =
    call-asked g.K.Keep.terms c.args.app c.args.others_have_sessions c.args.call
    (call.WrapKey c.in-WrapKey.session c.in-WrapKey.mechanism c.in-WrapKey.wrapping_key c.in-WrapKey.key c.in-WrapKey.buffer_len)
    c.args.random.now c.in-WrapKey.is 0
    (omega arith) c.args.store.now _ c.args.desk.now _ c.serve-in-WrapKey.result c.settle-in-WrapKey.result
    c.settle-in-WrapKey.ensures c.serve-in-WrapKey.ensures.asker c.serve-in-WrapKey.ensures.done g.met.K.Keep.sure

pub returns-in-UnwrapKey-clause-served : goal.returns-in-UnwrapKey-clause-served
unfolding answer_to
returns-in-UnwrapKey-clause-served g c =
    call-asked g.K.Keep.terms c.args.app c.args.others_have_sessions c.args.call
    (call.UnwrapKey c.in-UnwrapKey.session c.in-UnwrapKey.mechanism c.in-UnwrapKey.unwrapping_key c.in-UnwrapKey.wrapped_key
    c.in-UnwrapKey.template) c.args.random.now c.in-UnwrapKey.is 0
    (omega arith) c.args.store.now _ c.args.desk.now _ c.serve-in-UnwrapKey.result c.settle-in-UnwrapKey.result
    c.settle-in-UnwrapKey.ensures c.serve-in-UnwrapKey.ensures.asker c.serve-in-UnwrapKey.ensures.done g.met.K.Keep.sure

-- ---- the calls that take no memory

pub returns-in-GetTokenInfo-clause-small : goal.returns-in-GetTokenInfo-clause-small
returns-in-GetTokenInfo-clause-small g c = λ small. at-once c.serve.result c.settle.result c.settle.ensures c.serve.ensures.small

pub returns-in-GetMechanismInfo-clause-small : goal.returns-in-GetMechanismInfo-clause-small
returns-in-GetMechanismInfo-clause-small g c =
    λ small. at-once c.serve-in-GetMechanismInfo.result c.settle-in-GetMechanismInfo.result c.settle-in-GetMechanismInfo.ensures
    c.serve-in-GetMechanismInfo.ensures.small

pub returns-in-Logout-clause-small : goal.returns-in-Logout-clause-small
returns-in-Logout-clause-small g c =
    λ small. at-once c.serve-in-Logout.result c.settle-in-Logout.result c.settle-in-Logout.ensures c.serve-in-Logout.ensures.small

pub returns-in-FindObjectsFinal-clause-small : goal.returns-in-FindObjectsFinal-clause-small
returns-in-FindObjectsFinal-clause-small g c =
    λ small. at-once c.serve_final.result c.settle-in-FindObjectsFinal.result c.settle-in-FindObjectsFinal.ensures
    c.serve_final.ensures.small

pub returns-in-EncryptInit-clause-small : goal.returns-in-EncryptInit-clause-small
returns-in-EncryptInit-clause-small g c =
    λ small. at-once c.serve-in-EncryptInit.result c.settle-in-EncryptInit.result c.settle-in-EncryptInit.ensures
    (c.serve-in-EncryptInit.ensures.small (none-is c.in-EncryptInit.mechanism (ap takes_no_memory (sym c.in-EncryptInit.is) ∙ small)))

pub returns-in-DecryptInit-clause-small : goal.returns-in-DecryptInit-clause-small
returns-in-DecryptInit-clause-small g c =
    λ small. at-once c.serve-in-DecryptInit.result c.settle-in-DecryptInit.result c.settle-in-DecryptInit.ensures
    (c.serve-in-DecryptInit.ensures.small (none-is c.in-DecryptInit.mechanism (ap takes_no_memory (sym c.in-DecryptInit.is) ∙ small)))

pub returns-in-SignInit-clause-small : goal.returns-in-SignInit-clause-small
returns-in-SignInit-clause-small g c =
    λ small. at-once c.serve-in-SignInit.result c.settle-in-SignInit.result c.settle-in-SignInit.ensures
    (c.serve-in-SignInit.ensures.small (none-is c.in-SignInit.mechanism (ap takes_no_memory (sym c.in-SignInit.is) ∙ small)))

pub returns-in-VerifyInit-clause-small : goal.returns-in-VerifyInit-clause-small
returns-in-VerifyInit-clause-small g c =
    λ small. at-once c.serve-in-VerifyInit.result c.settle-in-VerifyInit.result c.settle-in-VerifyInit.ensures
    (c.serve-in-VerifyInit.ensures.small (none-is c.in-VerifyInit.mechanism (ap takes_no_memory (sym c.in-VerifyInit.is) ∙ small)))

pub returns-in-Encrypt-clause-small : goal.returns-in-Encrypt-clause-small
returns-in-Encrypt-clause-small g c =
    λ small. asked-at-once c.serve_final-in-Encrypt.result c.settle-in-Encrypt.result c.settle-in-Encrypt.ensures
    (c.serve_final-in-Encrypt.ensures.small (none-is c.in-Encrypt.buffer_len (ap takes_no_memory (sym c.in-Encrypt.is) ∙ small)))

pub returns-in-EncryptUpdate-clause-small : goal.returns-in-EncryptUpdate-clause-small
returns-in-EncryptUpdate-clause-small g c =
    λ small. asked-at-once c.update.result c.settle-in-EncryptUpdate.result c.settle-in-EncryptUpdate.ensures
    (c.update.ensures.small (none-is c.in-EncryptUpdate.buffer_len (ap takes_no_memory (sym c.in-EncryptUpdate.is) ∙ small)))

pub returns-in-EncryptFinal-clause-small : goal.returns-in-EncryptFinal-clause-small
returns-in-EncryptFinal-clause-small g c =
    λ small. asked-at-once c.serve_final-in-EncryptFinal.result c.settle-in-EncryptFinal.result c.settle-in-EncryptFinal.ensures
    (c.serve_final-in-EncryptFinal.ensures.small (none-is c.in-EncryptFinal.buffer_len (ap takes_no_memory (sym c.in-EncryptFinal.is) ∙ small)))

pub returns-in-Decrypt-clause-small : goal.returns-in-Decrypt-clause-small
returns-in-Decrypt-clause-small g c =
    λ small. asked-at-once c.serve_final-in-Decrypt.result c.settle-in-Decrypt.result c.settle-in-Decrypt.ensures
    (c.serve_final-in-Decrypt.ensures.small (none-is c.in-Decrypt.buffer_len (ap takes_no_memory (sym c.in-Decrypt.is) ∙ small)))

pub returns-in-DecryptUpdate-clause-small : goal.returns-in-DecryptUpdate-clause-small
returns-in-DecryptUpdate-clause-small g c =
    λ small. asked-at-once c.update-in-DecryptUpdate.result c.settle-in-DecryptUpdate.result
    c.settle-in-DecryptUpdate.ensures
    (c.update-in-DecryptUpdate.ensures.small
    (none-is c.in-DecryptUpdate.buffer_len (ap takes_no_memory (sym c.in-DecryptUpdate.is) ∙ small)))

pub returns-in-DecryptFinal-clause-small : goal.returns-in-DecryptFinal-clause-small
returns-in-DecryptFinal-clause-small g c =
    λ small. asked-at-once c.serve_final-in-DecryptFinal.result c.settle-in-DecryptFinal.result
    c.settle-in-DecryptFinal.ensures
    (c.serve_final-in-DecryptFinal.ensures.small (none-is c.in-DecryptFinal.buffer_len (ap takes_no_memory (sym c.in-DecryptFinal.is) ∙ small)))

pub returns-in-Sign-clause-small : goal.returns-in-Sign-clause-small
returns-in-Sign-clause-small g c =
    λ small. asked-at-once c.sign.result c.settle-in-Sign.result c.settle-in-Sign.ensures
    (c.sign.ensures.small (none-is c.in-Sign.buffer_len (ap takes_no_memory (sym c.in-Sign.is) ∙ small)))

pub returns-in-SignFinal-clause-small : goal.returns-in-SignFinal-clause-small
returns-in-SignFinal-clause-small g c =
    λ small. asked-at-once c.sign-in-SignFinal.result c.settle-in-SignFinal.result c.settle-in-SignFinal.ensures
    (c.sign-in-SignFinal.ensures.small (none-is c.in-SignFinal.buffer_len (ap takes_no_memory (sym c.in-SignFinal.is) ∙ small)))
