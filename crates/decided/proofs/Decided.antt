-- ONE OUTCOME (document 01, 'What the promises have to decide'). For each public function: two results, with two contents of all memory
-- lent, that its promise allows are equal. The promises are not written again here: `f-reads.Post` is what the prover itself has read from
-- the `ensures` of f. Of nine functions, which were proved by hand once, the claim is also written down, and `f-says` shows that it is their
-- `ensures`. Of `Display` for reader's `Fault` and `BadField` it is shown that the text is one. Three kinds are left out: `Debug`, which promises no
-- text, equality and copies that are derived, and the crate `input`, which reads from outside.
use Rattle.std.specs.Prelude.{ℕ, ◌^◌, ◌<◌, List, ◌++◌, length, ◌≡◌, refl, Ok}
use Rattle.std.specs.Fmt.{IsPlainFormatter}
use Rattle.std.specs.declared.fmt.Write.{Ghosts}
use Rattle.std.proofs.Common.{sym, ap, ◌∙◌}
use Rattle.std.proofs.lemmas.Fmt.{contents_after_writes}
use mir.Syntax.{Dict}
use denote.RattleType.{RattleType}
use denote.Param.Laws.{Laws}
use contract.Lifetimes.{Lfts}
use denote.Triple.Entry.{Args, Res}
use denote.Triple.Clauses.{Lasts, at_exit}
use Rattle.answer.specs.Numbers.{Outcome, when_done}
use Rattle.nib.proofs.CounterLaws as counters
use Rattle.nib.specs.Sending.{taken}
use Rattle.nib.specs.SendingLaws as sending
use Rattle.by_value.proofs.OneLaws.{one_left, one_took}
use Rattle.aib.specs.PairLaws.{one_advanced, one_recorded}
use Rattle.decided.proofs.OneTable.{same_round, same_substitution}
use Rattle.decided.specs.KeyWords.{Words, Small, same_word, same-words, same-state}
use Rattle.answer.specs.contracts.U8FromRefusal.from as answer-number-of'
use Rattle.answer.proofs.U8FromRefusal.from.Reads as answer-number-of-reads
use Rattle.answer.specs.contracts.outcome_number as answer-outcome-number'
use Rattle.answer.proofs.outcome_number.Reads as answer-outcome-number-reads
use Rattle.answer.specs.contracts.ToldFromAnswer.from as answer-told-of'
use Rattle.answer.proofs.ToldFromAnswer.from.Reads as answer-told-of-reads
use Rattle.tables.specs.contracts.round_table as tables-round-table'
use Rattle.tables.specs.contracts.substitution_table as tables-substitution-table'
use Rattle.tables.specs.contracts.cipher_tables as tables-cipher-tables'
use Rattle.tables.specs.contracts.substituted as tables-substituted'
use Rattle.tables.proofs.substituted.Reads as tables-substituted-reads
use Rattle.tables.specs.contracts.round_entry as tables-round-entry'
use Rattle.tables.proofs.round_entry.Reads as tables-round-entry-reads
use Rattle.tables.specs.contracts.tag_length as tables-tag-length'
use Rattle.tables.proofs.tag_length.Reads as tables-tag-length-reads
use Rattle.octets.specs.contracts.xor_into as octets-xor-into'
use Rattle.octets.proofs.xor_into.Reads as octets-xor-into-reads
use Rattle.octets.specs.contracts.same as octets-same'
use Rattle.octets.proofs.same.Reads as octets-same-reads
use Rattle.octets.specs.contracts.copy as octets-copy'
use Rattle.octets.proofs.copy.Reads as octets-copy-reads
use Rattle.words.specs.contracts.joined as words-joined'
use Rattle.words.proofs.joined.Reads as words-joined-reads
use Rattle.words.specs.contracts.xored as words-xored'
use Rattle.words.proofs.xored.Reads as words-xored-reads
use Rattle.words.specs.contracts.added as words-added'
use Rattle.words.proofs.added.Reads as words-added-reads
use Rattle.words.specs.contracts.state_of as words-state-of'
use Rattle.words.proofs.state_of.Reads as words-state-of-reads
use Rattle.words.specs.contracts.block_of as words-block-of'
use Rattle.words.proofs.block_of.Reads as words-block-of-reads
use Rattle.aes.specs.contracts.encipher as aes-encipher'
use Rattle.aes.proofs.encipher.Reads as aes-encipher-reads
use Rattle.aes.specs.contracts.encipher_state as aes-encipher-state'
use Rattle.aes.proofs.encipher_state.Reads as aes-encipher-state-reads
use Rattle.aes.specs.contracts.encrypt as aes-encrypt'
use Rattle.aes.proofs.encrypt.Reads as aes-encrypt-reads
use Rattle.aes.specs.contracts.expand_with as aes-expand-with'
use Rattle.aes.proofs.expand_with.Reads as aes-expand-with-reads
use Rattle.aes.specs.contracts.expand as aes-expand'
use Rattle.aes.proofs.expand.Reads as aes-expand-reads
use Rattle.ccm.specs.contracts.seal as ccm-seal'
use Rattle.ccm.proofs.seal.Reads as ccm-seal-reads
use Rattle.ccm.specs.contracts.unseal as ccm-unseal'
use Rattle.ccm.proofs.unseal.Reads as ccm-unseal-reads
use Rattle.mmo.specs.contracts.first_block as mmo-first-block'
use Rattle.mmo.proofs.first_block.Reads as mmo-first-block-reads
use Rattle.mmo.specs.contracts.hash_start as mmo-hash-start'
use Rattle.mmo.proofs.hash_start.Reads as mmo-hash-start-reads
use Rattle.mmo.specs.contracts.hash_start_from as mmo-hash-start-from'
use Rattle.mmo.proofs.hash_start_from.Reads as mmo-hash-start-from-reads
use Rattle.mmo.specs.contracts.hash_add_with as mmo-hash-add-with'
use Rattle.mmo.proofs.hash_add_with.Reads as mmo-hash-add-with-reads
use Rattle.mmo.specs.contracts.hash_add as mmo-hash-add'
use Rattle.mmo.proofs.hash_add.Reads as mmo-hash-add-reads
use Rattle.mmo.specs.contracts.hash_finish_with as mmo-hash-finish-with'
use Rattle.mmo.proofs.hash_finish_with.Reads as mmo-hash-finish-with-reads
use Rattle.mmo.specs.contracts.hash_finish as mmo-hash-finish'
use Rattle.mmo.proofs.hash_finish.Reads as mmo-hash-finish-reads
use Rattle.primitives.specs.contracts.hash as primitives-hash'
use Rattle.primitives.proofs.hash.Reads as primitives-hash-reads
use Rattle.primitives.specs.contracts.hash_from as primitives-hash-from'
use Rattle.primitives.proofs.hash_from.Reads as primitives-hash-from-reads
use Rattle.primitives.specs.contracts.keyed_hash as primitives-keyed-hash'
use Rattle.primitives.proofs.keyed_hash.Reads as primitives-keyed-hash-reads
use Rattle.control.specs.contracts.Control.sent as control-sent'
use Rattle.control.proofs.Control.sent.Reads as control-sent-reads
use Rattle.control.specs.contracts.Control.level as control-level'
use Rattle.control.proofs.Control.level.Reads as control-level-reads
use Rattle.control.specs.contracts.Control.tag_length as control-tag-length'
use Rattle.control.proofs.Control.tag_length.Reads as control-tag-length-reads
use Rattle.control.specs.contracts.Control.filled as control-filled'
use Rattle.control.proofs.Control.filled.Reads as control-filled-reads
use Rattle.control.specs.contracts.Control.cleared as control-cleared'
use Rattle.control.proofs.Control.cleared.Reads as control-cleared-reads
use Rattle.control.specs.contracts.Control.key as control-key'
use Rattle.control.proofs.Control.key.Reads as control-key-reads
use Rattle.control.specs.contracts.Control.has_sender as control-has-sender'
use Rattle.control.proofs.Control.has_sender.Reads as control-has-sender-reads
use Rattle.control.specs.contracts.Control.has_number as control-has-number'
use Rattle.control.proofs.Control.has_number.Reads as control-has-number-reads
use Rattle.auxiliary_header.specs.contracts.auxiliary_length as frame-auxiliary-length'
use Rattle.auxiliary_header.proofs.auxiliary_length.Reads as frame-auxiliary-length-reads
use Rattle.auxiliary_header.specs.contracts.read as frame-read'
use Rattle.auxiliary_header.proofs.read.Reads as frame-read-reads
use Rattle.auxiliary_header.specs.contracts.write as frame-write'
use Rattle.auxiliary_header.proofs.write.Reads as frame-write-reads
use Rattle.auxiliary_header.specs.contracts.nonce as frame-nonce'
use Rattle.auxiliary_header.proofs.nonce.Reads as frame-nonce-reads
use Rattle.auxiliary_header.specs.contracts.number_at as frame-number-at'
use Rattle.auxiliary_header.proofs.number_at.Reads as frame-number-at-reads
use Rattle.fields.specs.contracts.field_at as fields-field-at'
use Rattle.fields.proofs.field_at.Reads as fields-field-at-reads
use Rattle.frame_header.specs.contracts.nwk as header-nwk'
use Rattle.frame_header.proofs.nwk.Reads as header-nwk-reads
use Rattle.frame_header.specs.contracts.network.U8FromNwkKind.from as header-kind-number'
use Rattle.frame_header.proofs.network.U8FromNwkKind.from.Reads as header-kind-number-reads
use Rattle.frame_header.specs.contracts.aps as header-aps'
use Rattle.frame_header.proofs.aps.Reads as header-aps-reads
use Rattle.frame_header.specs.contracts.application.ApsControl.taken as header-taken'
use Rattle.frame_header.proofs.application.ApsControl.taken.Reads as header-taken-reads
use Rattle.frame_header.specs.contracts.application.ApsControl.command as header-command'
use Rattle.frame_header.proofs.application.ApsControl.command.Reads as header-command-reads
use Rattle.frame_header.specs.contracts.application.ApsControl.secured as header-secured'
use Rattle.frame_header.proofs.application.ApsControl.secured.Reads as header-secured-reads
use Rattle.frame_header.specs.contracts.application.ApsControl.length as header-length'
use Rattle.frame_header.proofs.application.ApsControl.length.Reads as header-length-reads
use Rattle.nib.specs.contracts.key_of as nib-key-of'
use Rattle.nib.proofs.key_of.Reads as nib-key-of-reads
use Rattle.nib.specs.contracts.key_under as nib-key-under'
use Rattle.nib.proofs.key_under.Reads as nib-key-under-reads
use Rattle.nib.specs.contracts.key_row as nib-key-row'
use Rattle.nib.proofs.key_row.Reads as nib-key-row-reads
use Rattle.nib.specs.contracts.capacity as nib-capacity'
use Rattle.nib.proofs.capacity.Reads as nib-capacity-reads
use Rattle.nib.specs.contracts.sending as nib-sending'
use Rattle.nib.proofs.sending.Reads as nib-sending-reads
use Rattle.nib.specs.contracts.usable as nib-usable'
use Rattle.nib.proofs.usable.Reads as nib-usable-reads
use Rattle.nib.specs.contracts.reset as nib-reset'
use Rattle.nib.proofs.reset.Reads as nib-reset-reads
use Rattle.nib.specs.contracts.following as nib-following'
use Rattle.nib.proofs.following.Reads as nib-following-reads
use Rattle.nib.specs.contracts.turned as nib-turned'
use Rattle.nib.proofs.turned.Reads as nib-turned-reads
use Rattle.nib.specs.contracts.empty_row as nib-empty-row'
use Rattle.nib.proofs.empty_row.Reads as nib-empty-row-reads
use Rattle.nib.specs.contracts.recorded_row as nib-recorded-row'
use Rattle.nib.proofs.recorded_row.Reads as nib-recorded-row-reads
use Rattle.counter_record.specs.contracts.take as counter-record-take'
use Rattle.counter_rows.specs.contracts.held as counter-rows-held'
use Rattle.counter_rows.specs.contracts.settle as counter-rows-settle'
use Rattle.counter_rows.specs.contracts.forget as counter-rows-forget'
use Rattle.by_value.specs.contracts.settle_with as by-value-settle-with'
use Rattle.by_value.proofs.settle_with.Reads as by-value-settle-with-reads
use Rattle.by_value.specs.contracts.record_with as by-value-record-with'
use Rattle.by_value.proofs.record_with.Reads as by-value-record-with-reads
use Rattle.by_value.specs.contracts.forget_with as by-value-forget-with'
use Rattle.by_value.proofs.forget_with.Reads as by-value-forget-with-reads
use Rattle.by_value.specs.contracts.held_with as by-value-held-with'
use Rattle.by_value.proofs.held_with.Reads as by-value-held-with-reads
use Rattle.by_value.specs.contracts.take_with as by-value-take-with'
use Rattle.by_value.proofs.take_with.Reads as by-value-take-with-reads
use Rattle.aib.specs.contracts.find as aib-find'
use Rattle.aib.proofs.find.Reads as aib-find-reads
use Rattle.aib.specs.contracts.usable as aib-usable'
use Rattle.aib.proofs.usable.Reads as aib-usable-reads
use Rattle.aib.specs.contracts.advance as aib-advance'
use Rattle.aib.proofs.advance.Reads as aib-advance-reads
use Rattle.aib.specs.contracts.record as aib-record'
use Rattle.aib.proofs.record.Reads as aib-record-reads
use Rattle.claims.specs.contracts.number_of as claims-number-of'
use Rattle.claims.proofs.number_of.Reads as claims-number-of-reads
use Rattle.claims.specs.contracts.nwk_who as claims-nwk-who'
use Rattle.claims.proofs.nwk_who.Reads as claims-nwk-who-reads
use Rattle.claims.specs.contracts.aps_who as claims-aps-who'
use Rattle.claims.proofs.aps_who.Reads as claims-aps-who-reads
use Rattle.protection.specs.contracts.fresh as protection-fresh'
use Rattle.protection.proofs.fresh.Reads as protection-fresh-reads
use Rattle.protection.specs.contracts.Envelope.unprotect as protection-unprotect'
use Rattle.protection.proofs.Envelope.unprotect.Reads as protection-unprotect-reads
use Rattle.protection.specs.contracts.Envelope.vouch as protection-vouch'
use Rattle.protection.proofs.Envelope.vouch.Reads as protection-vouch-reads
use Rattle.protection.specs.contracts.Envelope.open as protection-open'
use Rattle.protection.proofs.Envelope.open.Reads as protection-open-reads
use Rattle.protection.specs.contracts.Envelope.send as protection-send'
use Rattle.protection.proofs.Envelope.send.Reads as protection-send-reads
use Rattle.protection.specs.contracts.Envelope.protect as protection-protect'
use Rattle.protection.proofs.Envelope.protect.Reads as protection-protect-reads
use Rattle.judging.specs.contracts.caller_of as judging-caller-of'
use Rattle.judging.proofs.caller_of.Reads as judging-caller-of-reads
use Rattle.judging.specs.contracts.judge as judging-judge'
use Rattle.judging.proofs.judge.Reads as judging-judge-reads
use Rattle.securing.specs.contracts.ready_for as securing-ready-for'
use Rattle.securing.proofs.ready_for.Reads as securing-ready-for-reads
use Rattle.securing.specs.contracts.finish as securing-finish'
use Rattle.securing.proofs.finish.Reads as securing-finish-reads
use Rattle.nwk.specs.contracts.open_nwk as nwk-open-nwk'
use Rattle.nwk.specs.contracts.secure_nwk as nwk-secure-nwk'
use Rattle.nwk_by_value.specs.contracts.open_with as nwk-by-value-open-with'
use Rattle.nwk_by_value.proofs.open_with.Reads as nwk-by-value-open-with-reads
use Rattle.nwk_by_value.specs.contracts.secure_with as nwk-by-value-secure-with'
use Rattle.nwk_by_value.proofs.secure_with.Reads as nwk-by-value-secure-with-reads
use Rattle.aps.specs.contracts.open_aps as aps-open-aps'
use Rattle.aps.proofs.open_aps.Reads as aps-open-aps-reads
use Rattle.aps.specs.contracts.secure_aps as aps-secure-aps'
use Rattle.aps.proofs.secure_aps.Reads as aps-secure-aps-reads
use Rattle.pouchkettle.specs.contracts.pouchkettle_open_nwk as pouchkettle-open-nwk'
use Rattle.pouchkettle.specs.contracts.pouchkettle_secure_nwk as pouchkettle-secure-nwk'
use Rattle.pouchkettle.specs.contracts.pouchkettle_forget as pouchkettle-forget'
use Rattle.pouchkettle.specs.contracts.pouchkettle_reset as pouchkettle-reset'
use Rattle.pouchkettle.proofs.pouchkettle_reset.Reads as pouchkettle-reset-reads
use Rattle.pouchkettle.specs.contracts.pouchkettle_open_aps as pouchkettle-open-aps'
use Rattle.pouchkettle.proofs.pouchkettle_open_aps.Reads as pouchkettle-open-aps-reads
use Rattle.pouchkettle.specs.contracts.pouchkettle_secure_aps as pouchkettle-secure-aps'
use Rattle.pouchkettle.proofs.pouchkettle_secure_aps.Reads as pouchkettle-secure-aps-reads
use Rattle.pouchkettle.specs.contracts.pouchkettle_hash_start as pouchkettle-hash-start'
use Rattle.pouchkettle.proofs.pouchkettle_hash_start.Reads as pouchkettle-hash-start-reads
use Rattle.pouchkettle.specs.contracts.pouchkettle_hash_start_from as pouchkettle-hash-start-from'
use Rattle.pouchkettle.proofs.pouchkettle_hash_start_from.Reads as pouchkettle-hash-start-from-reads
use Rattle.pouchkettle.specs.contracts.pouchkettle_hash_add as pouchkettle-hash-add'
use Rattle.pouchkettle.proofs.pouchkettle_hash_add.Reads as pouchkettle-hash-add-reads
use Rattle.pouchkettle.specs.contracts.pouchkettle_hash_finish as pouchkettle-hash-finish'
use Rattle.pouchkettle.proofs.pouchkettle_hash_finish.Reads as pouchkettle-hash-finish-reads
use Rattle.reader.specs.contracts.reading.Reader.start as reader-start'
use Rattle.reader.proofs.reading.Reader.start.Reads as reader-start-reads
use Rattle.reader.specs.contracts.reading.Reader.next as reader-next'
use Rattle.reader.proofs.reading.Reader.next.Reads as reader-next-reads
use Rattle.reader.specs.contracts.faults.FaultDisplay.fmt as reader-fault'
use Rattle.reader.proofs.faults.FaultDisplay.fmt.Reads as reader-fault-reads
use Rattle.reader.specs.contracts.faults.BadFieldDisplay.fmt as reader-bad-field'
use Rattle.reader.proofs.faults.BadFieldDisplay.fmt.Reads as reader-bad-field-reads
use Rattle.decided.specs.Decides.{Decides, Says, counter-record-take-promise, counter-rows-held-promise, counter-rows-settle-promise, counter-rows-forget-promise, nwk-open-nwk-promise, nwk-secure-nwk-promise, pouchkettle-open-nwk-promise, pouchkettle-secure-nwk-promise, pouchkettle-forget-promise}

when-same : {r r' : Outcome} (x y : List ℕ) → r ≡ r' → when_done r x y ≡ when_done r' x y
when-same x y e = ap (λ (r : Outcome). when_done r x y) e

-- ---- answer

pub answer-number-of : Decides answer-number-of'.ended answer-number-of-reads.Post
unfolding Decides
answer-number-of κs a z z' ws ws' p q = (p ∙ sym q, refl)

pub answer-outcome-number : Decides answer-outcome-number'.ended answer-outcome-number-reads.Post
unfolding Decides
answer-outcome-number κs a z z' ws ws' p q = (p ∙ sym q, refl)

pub answer-told-of : Decides answer-told-of'.ended answer-told-of-reads.Post
unfolding Decides
answer-told-of κs a z z' ws ws' p q = (p ∙ sym q, refl)

-- ---- tables

-- These three promise what their types say: a table has the rule. The bytes that it lends, so many as the type `[u8; 2048]` or `[u8; 256]` says, are
-- then the same; where they lie is left open.
pub tables-round-table : (κs : Lfts (tables-round-table'.signature).lifetimes) (a : Args tables-round-table'.signature κs) (z z' : Res tables-round-table'.signature κs) (ws ws' : Lasts tables-round-table'.ended κs a)
    → length z.bytes.now ≡ 2048 → length z'.bytes.now ≡ 2048 → (z.bytes.now ≡ z'.bytes.now) × (ws ≡ ws')
tables-round-table κs a z z' ws ws' h l = (same_round _ _ h l z.ruled z'.ruled, refl)

pub tables-substitution-table : (κs : Lfts (tables-substitution-table'.signature).lifetimes) (a : Args tables-substitution-table'.signature κs) (z z' : Res tables-substitution-table'.signature κs) (ws ws' : Lasts tables-substitution-table'.ended κs a)
    → length z.bytes.now ≡ 256 → length z'.bytes.now ≡ 256 → (z.bytes.now ≡ z'.bytes.now) × (ws ≡ ws')
tables-substitution-table κs a z z' ws ws' h l = (same_substitution _ _ h l z.ruled z'.ruled, refl)

pub tables-cipher-tables : (κs : Lfts (tables-cipher-tables'.signature).lifetimes) (a : Args tables-cipher-tables'.signature κs) (z z' : Res tables-cipher-tables'.signature κs) (ws ws' : Lasts tables-cipher-tables'.ended κs a)
    → length z.round.bytes.now ≡ 2048 → length z'.round.bytes.now ≡ 2048 → length z.substitution.bytes.now ≡ 256 → length z'.substitution.bytes.now ≡ 256 → (z.round.bytes.now ≡ z'.round.bytes.now) × (z.substitution.bytes.now ≡ z'.substitution.bytes.now) × (ws ≡ ws')
tables-cipher-tables κs a z z' ws ws' h l m n = (same_round _ _ h l z.round.ruled z'.round.ruled, same_substitution _ _ m n z.substitution.ruled z'.substitution.ruled, refl)

pub tables-substituted : Decides tables-substituted'.ended tables-substituted-reads.Post
unfolding Decides
tables-substituted κs a z z' ws ws' p q = (p ∙ sym q, refl)

pub tables-round-entry : Decides tables-round-entry'.ended tables-round-entry-reads.Post
unfolding Decides
tables-round-entry κs a z z' ws ws' p q = (p ∙ sym q, refl)

pub tables-tag-length : Decides tables-tag-length'.ended tables-tag-length-reads.Post
unfolding Decides
tables-tag-length κs a z z' ws ws' p q = (p ∙ sym q, refl)

-- ---- octets

pub octets-xor-into : Decides octets-xor-into'.ended octets-xor-into-reads.Post
unfolding Decides
octets-xor-into κs a z z' ws ws' p q = (refl, λ i. ((p ∙ sym q) i, (tt, tt)))

pub octets-same : Decides octets-same'.ended octets-same-reads.Post
unfolding Decides
octets-same κs a z z' ws ws' p q = (p ∙ sym q, refl)

pub octets-copy : Decides octets-copy'.ended octets-copy-reads.Post
unfolding Decides
octets-copy κs a z z' ws ws' p q = (refl, λ i. (tt, ((p ∙ sym q) i, tt)))

-- ---- words

-- of words of 32 bits
pub words-joined : (κs : Lfts (words-joined'.signature).lifetimes) (a : Args words-joined'.signature κs) (z z' : Res words-joined'.signature κs) (ws ws' : Lasts words-joined'.ended κs a) → z < 2 ^ 32 → z' < 2 ^ 32
    → words-joined-reads.Post κs a z (at_exit words-joined'.ended κs a ws) → words-joined-reads.Post κs a z' (at_exit words-joined'.ended κs a ws') → (z ≡ z') × (ws ≡ ws')
words-joined κs a z z' ws ws' h l p q = (same_word z z' h l (p ∙ sym q), refl)

-- of words of 32 bits
pub words-xored : (κs : Lfts (words-xored'.signature).lifetimes) (a : Args words-xored'.signature κs) (z z' : Res words-xored'.signature κs) (ws ws' : Lasts words-xored'.ended κs a) → z < 2 ^ 32 → z' < 2 ^ 32
    → words-xored-reads.Post κs a z (at_exit words-xored'.ended κs a ws) → words-xored-reads.Post κs a z' (at_exit words-xored'.ended κs a ws') → (z ≡ z') × (ws ≡ ws')
words-xored κs a z z' ws ws' h l p q = (same_word z z' h l (p ∙ sym q), refl)

-- of states whose words have 32 bits
pub words-added : (κs : Lfts (words-added'.signature).lifetimes) (a : Args words-added'.signature κs) (z z' : Res words-added'.signature κs) (ws ws' : Lasts words-added'.ended κs a) → Small z → Small z'
    → words-added-reads.Post κs a z (at_exit words-added'.ended κs a ws) → words-added-reads.Post κs a z' (at_exit words-added'.ended κs a ws') → (z ≡ z') × (ws ≡ ws')
words-added κs a z z' ws ws' h l p q = (same-state z z' h l (p ∙ sym q), refl)

-- of states whose words have 32 bits
pub words-state-of : (κs : Lfts (words-state-of'.signature).lifetimes) (a : Args words-state-of'.signature κs) (z z' : Res words-state-of'.signature κs) (ws ws' : Lasts words-state-of'.ended κs a) → Small z → Small z'
    → words-state-of-reads.Post κs a z (at_exit words-state-of'.ended κs a ws) → words-state-of-reads.Post κs a z' (at_exit words-state-of'.ended κs a ws') → (z ≡ z') × (ws ≡ ws')
words-state-of κs a z z' ws ws' h l p q = (same-state z z' h l (p ∙ sym q), refl)

pub words-block-of : Decides words-block-of'.ended words-block-of-reads.Post
unfolding Decides
words-block-of κs a z z' ws ws' p q = (p ∙ sym q, refl)

-- ---- aes

pub aes-encipher : Decides aes-encipher'.ended aes-encipher-reads.Post
unfolding Decides
aes-encipher κs a z z' ws ws' p q = (p ∙ sym q, refl)

pub aes-encrypt : Decides aes-encrypt'.ended aes-encrypt-reads.Post
unfolding Decides
aes-encrypt κs a z z' ws ws' p q = (p ∙ sym q, refl)

-- of words that the type `[u32; 44]` has
pub aes-expand-with : (κs : Lfts (aes-expand-with'.signature).lifetimes) (a : Args aes-expand-with'.signature κs) (z z' : Res aes-expand-with'.signature κs) (ws ws' : Lasts aes-expand-with'.ended κs a) → Words z → Words z'
    → aes-expand-with-reads.Post κs a z (at_exit aes-expand-with'.ended κs a ws) → aes-expand-with-reads.Post κs a z' (at_exit aes-expand-with'.ended κs a ws') → (z ≡ z') × (ws ≡ ws')
aes-expand-with κs a z z' ws ws' h l p q = (same-words z z' h l (p ∙ sym q), refl)

-- of words that the type `[u32; 44]` has
pub aes-expand : (κs : Lfts (aes-expand'.signature).lifetimes) (a : Args aes-expand'.signature κs) (z z' : Res aes-expand'.signature κs) (ws ws' : Lasts aes-expand'.ended κs a) → Words z → Words z'
    → aes-expand-reads.Post κs a z (at_exit aes-expand'.ended κs a ws) → aes-expand-reads.Post κs a z' (at_exit aes-expand'.ended κs a ws') → (z ≡ z') × (ws ≡ ws')
aes-expand κs a z z' ws ws' h l p q = (same-words z z' h l (p ∙ sym q), refl)

-- of a state whose words have 32 bits
pub aes-encipher-state : (κs : Lfts (aes-encipher-state'.signature).lifetimes) (a : Args aes-encipher-state'.signature κs) (z z' : Res aes-encipher-state'.signature κs) (ws ws' : Lasts aes-encipher-state'.ended κs a) → Small z → Small z'
    → aes-encipher-state-reads.Post κs a z (at_exit aes-encipher-state'.ended κs a ws) → aes-encipher-state-reads.Post κs a z' (at_exit aes-encipher-state'.ended κs a ws') → (z ≡ z') × (ws ≡ ws')
aes-encipher-state κs a z z' ws ws' h l p q = (same-state z z' h l (p ∙ sym q), refl)

-- ---- ccm

pub ccm-seal : Decides ccm-seal'.ended ccm-seal-reads.Post
unfolding Decides
ccm-seal κs a z z' ws ws' p q = let e = p.0 ∙ sym q.0 in (e, λ i. (tt, (tt, (tt, ((p.1 ∙ when-same _ _ e ∙ sym q.1) i, (tt, (tt, tt)))))))

pub ccm-unseal : Decides ccm-unseal'.ended ccm-unseal-reads.Post
unfolding Decides
ccm-unseal κs a z z' ws ws' p q = let e = p.0 ∙ sym q.0 in (e, λ i. (tt, (tt, (tt, ((p.1 ∙ when-same _ _ e ∙ sym q.1) i, (tt, (tt, tt)))))))

-- ---- mmo

pub mmo-first-block : Decides mmo-first-block'.ended mmo-first-block-reads.Post
unfolding Decides
mmo-first-block κs a z z' ws ws' p q = (p ∙ sym q, refl)

pub mmo-hash-start : Decides mmo-hash-start'.ended mmo-hash-start-reads.Post
unfolding Decides
mmo-hash-start κs a z z' ws ws' p q = (p ∙ sym q, refl)

pub mmo-hash-start-from : Decides mmo-hash-start-from'.ended mmo-hash-start-from-reads.Post
unfolding Decides
mmo-hash-start-from κs a z z' ws ws' p q = (p ∙ sym q, refl)

pub mmo-hash-add-with : Decides mmo-hash-add-with'.ended mmo-hash-add-with-reads.Post
unfolding Decides
mmo-hash-add-with κs a z z' ws ws' p q = (p ∙ sym q, refl)

pub mmo-hash-add : Decides mmo-hash-add'.ended mmo-hash-add-reads.Post
unfolding Decides
mmo-hash-add κs a z z' ws ws' p q = (p ∙ sym q, refl)

pub mmo-hash-finish-with : Decides mmo-hash-finish-with'.ended mmo-hash-finish-with-reads.Post
unfolding Decides
mmo-hash-finish-with κs a z z' ws ws' p q = (p ∙ sym q, refl)

pub mmo-hash-finish : Decides mmo-hash-finish'.ended mmo-hash-finish-reads.Post
unfolding Decides
mmo-hash-finish κs a z z' ws ws' p q = (p ∙ sym q, refl)

-- ---- primitives

pub primitives-hash : Decides primitives-hash'.ended primitives-hash-reads.Post
unfolding Decides
primitives-hash κs a z z' ws ws' p q = (p ∙ sym q, refl)

pub primitives-hash-from : Decides primitives-hash-from'.ended primitives-hash-from-reads.Post
unfolding Decides
primitives-hash-from κs a z z' ws ws' p q = (p ∙ sym q, refl)

pub primitives-keyed-hash : Decides primitives-keyed-hash'.ended primitives-keyed-hash-reads.Post
unfolding Decides
primitives-keyed-hash κs a z z' ws ws' p q = (p ∙ sym q, refl)

-- ---- control

pub control-sent : Decides control-sent'.ended control-sent-reads.Post
unfolding Decides
control-sent κs a z z' ws ws' p q = (λ i. record { byte = (p ∙ sym q) i }, refl)

pub control-level : Decides control-level'.ended control-level-reads.Post
unfolding Decides
control-level κs a z z' ws ws' p q = (p ∙ sym q, refl)

pub control-tag-length : Decides control-tag-length'.ended control-tag-length-reads.Post
unfolding Decides
control-tag-length κs a z z' ws ws' p q = (p ∙ sym q, refl)

pub control-filled : Decides control-filled'.ended control-filled-reads.Post
unfolding Decides
control-filled κs a z z' ws ws' p q = (λ i. record { byte = (p ∙ sym q) i }, refl)

pub control-cleared : Decides control-cleared'.ended control-cleared-reads.Post
unfolding Decides
control-cleared κs a z z' ws ws' p q = (λ i. record { byte = (p ∙ sym q) i }, refl)

pub control-key : Decides control-key'.ended control-key-reads.Post
unfolding Decides
control-key κs a z z' ws ws' p q = (p ∙ sym q, refl)

pub control-has-sender : Decides control-has-sender'.ended control-has-sender-reads.Post
unfolding Decides
control-has-sender κs a z z' ws ws' p q = (p ∙ sym q, refl)

pub control-has-number : Decides control-has-number'.ended control-has-number-reads.Post
unfolding Decides
control-has-number κs a z z' ws ws' p q = (p ∙ sym q, refl)

-- ---- frame

pub frame-auxiliary-length : Decides frame-auxiliary-length'.ended frame-auxiliary-length-reads.Post
unfolding Decides
frame-auxiliary-length κs a z z' ws ws' p q = (p ∙ sym q, refl)

pub frame-read : Decides frame-read'.ended frame-read-reads.Post
unfolding Decides
frame-read κs a z z' ws ws' p q = (p ∙ sym q, refl)

pub frame-write : Decides frame-write'.ended frame-write-reads.Post
unfolding Decides
frame-write κs a z z' ws ws' p q = (p.0 ∙ sym q.0, λ i. ((p.1 ∙ sym q.1) i, (tt, (tt, (tt, (tt, (tt, tt)))))))

pub frame-nonce : Decides frame-nonce'.ended frame-nonce-reads.Post
unfolding Decides
frame-nonce κs a z z' ws ws' p q = (p ∙ sym q, refl)

pub frame-number-at : Decides frame-number-at'.ended frame-number-at-reads.Post
unfolding Decides
frame-number-at κs a z z' ws ws' p q = (p.0 ∙ sym q.0, refl)

-- ---- fields

pub fields-field-at : Decides fields-field-at'.ended fields-field-at-reads.Post
unfolding Decides
fields-field-at κs a z z' ws ws' p q = (p ∙ sym q, refl)

-- ---- header

pub header-nwk : Decides header-nwk'.ended header-nwk-reads.Post
unfolding Decides
header-nwk κs a z z' ws ws' p q = (p ∙ sym q, refl)

pub header-kind-number : Decides header-kind-number'.ended header-kind-number-reads.Post
unfolding Decides
header-kind-number κs a z z' ws ws' p q = (p ∙ sym q, refl)

pub header-aps : Decides header-aps'.ended header-aps-reads.Post
unfolding Decides
header-aps κs a z z' ws ws' p q = (p ∙ sym q, refl)

pub header-taken : Decides header-taken'.ended header-taken-reads.Post
unfolding Decides
header-taken κs a z z' ws ws' p q = (p ∙ sym q, refl)

pub header-command : Decides header-command'.ended header-command-reads.Post
unfolding Decides
header-command κs a z z' ws ws' p q = (p ∙ sym q, refl)

pub header-secured : Decides header-secured'.ended header-secured-reads.Post
unfolding Decides
header-secured κs a z z' ws ws' p q = (p ∙ sym q, refl)

pub header-length : Decides header-length'.ended header-length-reads.Post
unfolding Decides
header-length κs a z z' ws ws' p q = (p ∙ sym q, refl)

-- ---- nib

pub nib-key-of : Decides nib-key-of'.ended nib-key-of-reads.Post
unfolding Decides
nib-key-of κs a z z' ws ws' p q = (p ∙ sym q, refl)

pub nib-key-under : Decides nib-key-under'.ended nib-key-under-reads.Post
unfolding Decides
nib-key-under κs a z z' ws ws' p q = (p ∙ sym q, refl)

pub nib-key-row : Decides nib-key-row'.ended nib-key-row-reads.Post
unfolding Decides
nib-key-row κs a z z' ws ws' p q = (p ∙ sym q, refl)

pub nib-capacity : Decides nib-capacity'.ended nib-capacity-reads.Post
unfolding Decides
nib-capacity κs a z z' ws ws' p q = (p ∙ sym q, refl)

pub nib-sending : Decides nib-sending'.ended nib-sending-reads.Post
unfolding Decides
nib-sending κs a z z' ws ws' p q = (p ∙ sym q, refl)

pub nib-usable : Decides nib-usable'.ended nib-usable-reads.Post
unfolding Decides
nib-usable κs a z z' ws ws' p q = (p ∙ sym q, refl)

pub nib-reset : Decides nib-reset'.ended nib-reset-reads.Post
unfolding Decides
nib-reset κs a z z' ws ws' p q = (p ∙ sym q, refl)

pub nib-following : Decides nib-following'.ended nib-following-reads.Post
unfolding Decides
nib-following κs a z z' ws ws' p q = (p ∙ sym q, refl)

pub nib-turned : Decides nib-turned'.ended nib-turned-reads.Post
unfolding Decides
nib-turned κs a z z' ws ws' p q = (p ∙ sym q, refl)

pub nib-empty-row : Decides nib-empty-row'.ended nib-empty-row-reads.Post
unfolding Decides
nib-empty-row κs a z z' ws ws' p q = (p ∙ sym q, refl)

pub nib-recorded-row : Decides nib-recorded-row'.ended nib-recorded-row-reads.Post
unfolding Decides
nib-recorded-row κs a z z' ws ws' p q = (p ∙ sym q, refl)

pub counter-record-take-says : Says counter-record-take'.ended counter-record-take-promise (λ M 𝓤. counter-record-take'.clauses {M = M} {𝓤 = 𝓤})
unfolding Says
counter-record-take-says M 𝓤 𝓛 mem run κs a g z e = refl

pub counter-record-take : Decides counter-record-take'.ended counter-record-take-promise
unfolding Decides
counter-record-take κs a z z' ws ws' p q = let w = sending.one (taken a.0.now) z z' _ _ p q in (w.0, λ i. (w.1 i, tt))

pub counter-rows-held-says : Says counter-rows-held'.ended counter-rows-held-promise (λ M 𝓤. counter-rows-held'.clauses {M = M} {𝓤 = 𝓤})
unfolding Says
counter-rows-held-says M 𝓤 𝓛 mem run κs a g z e = refl

pub counter-rows-held : Decides counter-rows-held'.ended counter-rows-held-promise
unfolding Decides
counter-rows-held κs a z z' ws ws' p q = (p ∙ sym q, refl)

pub counter-rows-settle-says : Says counter-rows-settle'.ended counter-rows-settle-promise (λ M 𝓤. counter-rows-settle'.clauses {M = M} {𝓤 = 𝓤})
unfolding Says
counter-rows-settle-says M 𝓤 𝓛 mem run κs a g z e = refl

pub counter-rows-settle : Decides counter-rows-settle'.ended counter-rows-settle-promise
unfolding Decides
counter-rows-settle κs a z z' ws ws' p q = let w = counters.one _ _ z z' _ _ p q in (w.0, λ i. (w.1 i, (tt, (tt, tt))))

pub counter-rows-forget-says : Says counter-rows-forget'.ended counter-rows-forget-promise (λ M 𝓤. counter-rows-forget'.clauses {M = M} {𝓤 = 𝓤})
unfolding Says
counter-rows-forget-says M 𝓤 𝓛 mem run κs a g z e = refl

pub counter-rows-forget : Decides counter-rows-forget'.ended counter-rows-forget-promise
unfolding Decides
counter-rows-forget κs a z z' ws ws' p q = let w = counters.one _ _ z z' _ _ p q in (w.0, λ i. (w.1 i, (tt, (tt, tt))))

-- ---- by_value

pub by-value-settle-with : Decides by-value-settle-with'.ended by-value-settle-with-reads.Post
unfolding Decides
by-value-settle-with κs a z z' ws ws' p q = (one_left _ a.0 z z' p q, refl)

pub by-value-record-with : Decides by-value-record-with'.ended by-value-record-with-reads.Post
unfolding Decides
by-value-record-with κs a z z' ws ws' p q = (one_left _ a.0 z z' p q, refl)

pub by-value-forget-with : Decides by-value-forget-with'.ended by-value-forget-with-reads.Post
unfolding Decides
by-value-forget-with κs a z z' ws ws' p q = (one_left _ a.0 z z' p q, refl)

pub by-value-held-with : Decides by-value-held-with'.ended by-value-held-with-reads.Post
unfolding Decides
by-value-held-with κs a z z' ws ws' p q = (p ∙ sym q, refl)

pub by-value-take-with : Decides by-value-take-with'.ended by-value-take-with-reads.Post
unfolding Decides
by-value-take-with κs a z z' ws ws' p q = (one_took _ a.0 z z' p q, refl)

-- ---- aib

pub aib-find : Decides aib-find'.ended aib-find-reads.Post
unfolding Decides
aib-find κs a z z' ws ws' p q = (p.0 ∙ sym q.0, refl)

pub aib-usable : Decides aib-usable'.ended aib-usable-reads.Post
unfolding Decides
aib-usable κs a z z' ws ws' p q = (p ∙ sym q, refl)

pub aib-advance : Decides aib-advance'.ended aib-advance-reads.Post
unfolding Decides
aib-advance κs a z z' ws ws' p q = let w = one_advanced _ z z' _ _ p q in (w.0, λ i. (w.1 i, (tt, tt)))

pub aib-record : Decides aib-record'.ended aib-record-reads.Post
unfolding Decides
aib-record κs a z z' ws ws' p q = let w = one_recorded _ z z' _ _ p q in (w.0, λ i. (w.1 i, (tt, (tt, tt))))

-- ---- claims

pub claims-number-of : Decides claims-number-of'.ended claims-number-of-reads.Post
unfolding Decides
claims-number-of κs a z z' ws ws' p q = (p ∙ sym q, refl)

pub claims-nwk-who : Decides claims-nwk-who'.ended claims-nwk-who-reads.Post
unfolding Decides
claims-nwk-who κs a z z' ws ws' p q = (p ∙ sym q, refl)

pub claims-aps-who : Decides claims-aps-who'.ended claims-aps-who-reads.Post
unfolding Decides
claims-aps-who κs a z z' ws ws' p q = (p ∙ sym q, refl)

-- ---- protection

pub protection-fresh : Decides protection-fresh'.ended protection-fresh-reads.Post
unfolding Decides
protection-fresh κs a z z' ws ws' p q = (p ∙ sym q, refl)

pub protection-unprotect : Decides protection-unprotect'.ended protection-unprotect-reads.Post
unfolding Decides
protection-unprotect κs a z z' ws ws' p q = let e = p.0 ∙ sym q.0 in (e, λ i. (tt, ((p.1 ∙ when-same _ _ e ∙ sym q.1) i, tt)))

pub protection-vouch : Decides protection-vouch'.ended protection-vouch-reads.Post
unfolding Decides
protection-vouch κs a z z' ws ws' p q = (p ∙ sym q, refl)

pub protection-open : Decides protection-open'.ended protection-open-reads.Post
unfolding Decides
protection-open κs a z z' ws ws' p q = (p.0 ∙ sym q.0, λ i. (tt, (tt, ((p.1 ∙ sym q.1) i, tt))))

pub protection-send : Decides protection-send'.ended protection-send-reads.Post
unfolding Decides
protection-send κs a z z' ws ws' p q = (refl, λ i. (tt, (tt, (tt, (tt, ((p ∙ sym q) i, tt))))))

pub protection-protect : Decides protection-protect'.ended protection-protect-reads.Post
unfolding Decides
protection-protect κs a z z' ws ws' p q = (refl, λ i. (tt, ((p ∙ sym q) i, (tt, tt))))

-- ---- judging and securing

pub judging-caller-of : Decides judging-caller-of'.ended judging-caller-of-reads.Post
unfolding Decides
judging-caller-of κs a z z' ws ws' p q = (p ∙ sym q, refl)

pub judging-judge : Decides judging-judge'.ended judging-judge-reads.Post
unfolding Decides
judging-judge κs a z z' ws ws' p q = (p.0 ∙ sym q.0, λ i. (tt, (tt, (tt, ((p.1 ∙ sym q.1) i, tt)))))

pub securing-ready-for : Decides securing-ready-for'.ended securing-ready-for-reads.Post
unfolding Decides
securing-ready-for κs a z z' ws ws' p q = (p ∙ sym q, refl)

pub securing-finish : Decides securing-finish'.ended securing-finish-reads.Post
unfolding Decides
securing-finish κs a z z' ws ws' p q = (refl, λ i. (tt, (tt, (tt, ((p ∙ sym q) i, (tt, tt))))))

pub nwk-open-nwk-says : Says nwk-open-nwk'.ended nwk-open-nwk-promise (λ M 𝓤. nwk-open-nwk'.clauses {M = M} {𝓤 = 𝓤})
unfolding Says
nwk-open-nwk-says M 𝓤 𝓛 mem run κs a g z e = refl

pub nwk-open-nwk : Decides nwk-open-nwk'.ended nwk-open-nwk-promise
unfolding Decides
nwk-open-nwk κs a z z' ws ws' p q = let same = p ∙ sym q in (λ i. record { answer = (same i).answer; used = (same i).used; active = (same i).active }, λ i. (tt, ((same i).rows, (tt, ((same i).frame, tt)))))

pub nwk-secure-nwk-says : Says nwk-secure-nwk'.ended nwk-secure-nwk-promise (λ M 𝓤. nwk-secure-nwk'.clauses {M = M} {𝓤 = 𝓤})
unfolding Says
nwk-secure-nwk-says M 𝓤 𝓛 mem run κs a g z e = refl

pub nwk-secure-nwk : Decides nwk-secure-nwk'.ended nwk-secure-nwk-promise
unfolding Decides
nwk-secure-nwk κs a z z' ws ws' p q = let same = p ∙ sym q in (λ i. (same i).answer, λ i. (tt, ((same i).outgoing, (tt, ((same i).out, tt)))))

-- ---- nwk_by_value

pub nwk-by-value-open-with : Decides nwk-by-value-open-with'.ended nwk-by-value-open-with-reads.Post
unfolding Decides
nwk-by-value-open-with κs a z z' ws ws' p q = let same = p ∙ sym q in (λ i. record { table = record { rows = (same i).rows; used = (same i).used }; active = (same i).active; answer = (same i).answer }, λ i. (tt, (tt, ((same i).frame, tt))))

pub nwk-by-value-secure-with : Decides nwk-by-value-secure-with'.ended nwk-by-value-secure-with-reads.Post
unfolding Decides
nwk-by-value-secure-with κs a z z' ws ws' p q = let same = p ∙ sym q in (λ i. record { answer = (same i).answer; outgoing = (same i).outgoing }, λ i. (tt, (tt, (tt, ((same i).out, tt)))))

-- ---- aps

pub aps-open-aps : Decides aps-open-aps'.ended aps-open-aps-reads.Post
unfolding Decides
aps-open-aps κs a z z' ws ws' p q = let same = p ∙ sym q in (λ i. (same i).answer, λ i. (tt, ((same i).pairs, ((same i).frame, tt))))

pub aps-secure-aps : Decides aps-secure-aps'.ended aps-secure-aps-reads.Post
unfolding Decides
aps-secure-aps κs a z z' ws ws' p q = let same = p ∙ sym q in (λ i. (same i).answer, λ i. (tt, ((same i).pairs, (tt, (tt, (tt, ((same i).out, tt)))))))

pub pouchkettle-open-nwk-says : Says pouchkettle-open-nwk'.ended pouchkettle-open-nwk-promise (λ M 𝓤. pouchkettle-open-nwk'.clauses {M = M} {𝓤 = 𝓤})
unfolding Says
pouchkettle-open-nwk-says M 𝓤 𝓛 mem run κs a g z e = refl

pub pouchkettle-open-nwk : Decides pouchkettle-open-nwk'.ended pouchkettle-open-nwk-promise
unfolding Decides
pouchkettle-open-nwk κs a z z' ws ws' p q = (p.0 ∙ sym q.0, λ i. (tt, ((p.1 ∙ sym q.1) i, (tt, ((p.2 ∙ sym q.2) i, tt)))))

pub pouchkettle-secure-nwk-says : Says pouchkettle-secure-nwk'.ended pouchkettle-secure-nwk-promise (λ M 𝓤. pouchkettle-secure-nwk'.clauses {M = M} {𝓤 = 𝓤})
unfolding Says
pouchkettle-secure-nwk-says M 𝓤 𝓛 mem run κs a g z e = refl

pub pouchkettle-secure-nwk : Decides pouchkettle-secure-nwk'.ended pouchkettle-secure-nwk-promise
unfolding Decides
pouchkettle-secure-nwk κs a z z' ws ws' p q = (p.0 ∙ sym q.0, λ i. (tt, ((p.1 ∙ sym q.1) i, (tt, ((p.2 ∙ sym q.2) i, tt)))))

pub pouchkettle-forget-says : Says pouchkettle-forget'.ended pouchkettle-forget-promise (λ M 𝓤. pouchkettle-forget'.clauses {M = M} {𝓤 = 𝓤})
unfolding Says
pouchkettle-forget-says M 𝓤 𝓛 mem run κs a g z e = refl

pub pouchkettle-forget : Decides pouchkettle-forget'.ended pouchkettle-forget-promise
unfolding Decides
pouchkettle-forget κs a z z' ws ws' p q = (p.0 ∙ sym q.0, λ i. ((p.1 ∙ sym q.1) i, (tt, (tt, tt))))

pub pouchkettle-reset : Decides pouchkettle-reset'.ended pouchkettle-reset-reads.Post
unfolding Decides
pouchkettle-reset κs a z z' ws ws' p q = (p ∙ sym q, refl)

pub pouchkettle-open-aps : Decides pouchkettle-open-aps'.ended pouchkettle-open-aps-reads.Post
unfolding Decides
pouchkettle-open-aps κs a z z' ws ws' p q = (λ i. record { told = (p.0 ∙ sym q.0) i; pairs = (p.1 ∙ sym q.1) i }, λ i. (tt, (tt, ((p.2 ∙ sym q.2) i, tt))))

pub pouchkettle-secure-aps : Decides pouchkettle-secure-aps'.ended pouchkettle-secure-aps-reads.Post
unfolding Decides
pouchkettle-secure-aps κs a z z' ws ws' p q = (λ i. record { told = (p.0 ∙ sym q.0) i; pairs = (p.1 ∙ sym q.1) i }, λ i. (tt, (tt, (tt, (tt, (tt, ((p.2 ∙ sym q.2) i, tt)))))))

pub pouchkettle-hash-start : Decides pouchkettle-hash-start'.ended pouchkettle-hash-start-reads.Post
unfolding Decides
pouchkettle-hash-start κs a z z' ws ws' p q = (p ∙ sym q, refl)

pub pouchkettle-hash-start-from : Decides pouchkettle-hash-start-from'.ended pouchkettle-hash-start-from-reads.Post
unfolding Decides
pouchkettle-hash-start-from κs a z z' ws ws' p q = (p ∙ sym q, refl)

pub pouchkettle-hash-add : Decides pouchkettle-hash-add'.ended pouchkettle-hash-add-reads.Post
unfolding Decides
pouchkettle-hash-add κs a z z' ws ws' p q = (λ i. record { number = (p.0 ∙ sym q.0) i; state = (p.1 ∙ sym q.1) i }, refl)

pub pouchkettle-hash-finish : Decides pouchkettle-hash-finish'.ended pouchkettle-hash-finish-reads.Post
unfolding Decides
pouchkettle-hash-finish κs a z z' ws ws' p q = (λ i. record { number = (p.0 ∙ sym q.0) i; value = (p.1 ∙ sym q.1) i }, refl)

-- ---- reader

pub reader-start : Decides reader-start'.ended reader-start-reads.Post
unfolding Decides
reader-start κs a z z' ws ws' p q = (p ∙ sym q, refl)

pub reader-next : Decides reader-next'.ended reader-next-reads.Post
unfolding Decides
reader-next κs a z z' ws ws' p q = let same = p ∙ sym q in (λ i. (same i).event, λ i. ((same i).reader, (tt, tt)))

-- These two print, and promise a text. They are handed a formatter with no options; its writer W is any type of which the caller knows that it keeps
-- what it is given (`contents`). Where the printing does not fail, what the writer holds after it is the same; whether it fails is the writer's.
pub reader-fault : (W : RattleType) (laws : Laws W) (gives : Ghosts W.Denot) (dict : Dict) (contents : W.Denot → List ℕ)
    → ((w : W.Denot) (bs : List ℕ) (v : W.Denot) → gives.write_str_gives w bs v → contents v ≡ contents w ++ bs)
    → (κs : Lfts (reader-fault'.signature W).lifetimes) (a : Args (reader-fault'.signature W) κs) (ws ws' : Lasts (reader-fault'.ended W gives dict) κs a) → IsPlainFormatter a.1.0.now
    → reader-fault-reads.Post W laws gives dict κs a (Ok tt) (at_exit (reader-fault'.ended W gives dict) κs a ws)
    → reader-fault-reads.Post W laws gives dict κs a (Ok tt) (at_exit (reader-fault'.ended W gives dict) κs a ws')
    → contents (at_exit (reader-fault'.ended W gives dict) κs a ws).1.0.now.writer ≡ contents (at_exit (reader-fault'.ended W gives dict) κs a ws').1.0.now.writer
reader-fault W laws gives dict contents keeps κs a ws ws' plain p q =
    let one = contents_after_writes gives.write_str_gives contents keeps in
    one _ _ _ (p.0 plain refl).wrote ∙ sym (one _ _ _ (q.0 plain refl).wrote)

pub reader-bad-field : (W : RattleType) (laws : Laws W) (gives : Ghosts W.Denot) (dict : Dict) (contents : W.Denot → List ℕ)
    → ((w : W.Denot) (bs : List ℕ) (v : W.Denot) → gives.write_str_gives w bs v → contents v ≡ contents w ++ bs)
    → (κs : Lfts (reader-bad-field'.signature W).lifetimes) (a : Args (reader-bad-field'.signature W) κs) (ws ws' : Lasts (reader-bad-field'.ended W gives dict) κs a) → IsPlainFormatter a.1.0.now
    → reader-bad-field-reads.Post W laws gives dict κs a (Ok tt) (at_exit (reader-bad-field'.ended W gives dict) κs a ws)
    → reader-bad-field-reads.Post W laws gives dict κs a (Ok tt) (at_exit (reader-bad-field'.ended W gives dict) κs a ws')
    → contents (at_exit (reader-bad-field'.ended W gives dict) κs a ws).1.0.now.writer ≡ contents (at_exit (reader-bad-field'.ended W gives dict) κs a ws').1.0.now.writer
reader-bad-field W laws gives dict contents keeps κs a ws ws' plain p q =
    let one = contents_after_writes gives.write_str_gives contents keeps in
    one _ _ _ (p.0 plain refl).wrote ∙ sym (one _ _ _ (q.0 plain refl).wrote)
