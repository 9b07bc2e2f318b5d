-- What every walk imports, passed on from one place: the kit's steps, and below them this crate's lemmas.
-- numbers, tests, lists
pub use Rattle.std.specs.Prelude.{◌*◌, ◌+◌, ◌-◌, ◌<◌, ◌^◌, ◌≤◌, suc, zero, ℕ, ◌≡◌, refl, Bool, false, not, true, List, [], ◌∷◌, map, ◌++◌, eqb, ltb, T, get_or, length, set, take}
pub use Rattle.std.proofs.Common.{arith, ◌∙◌, ap, subst, sym, T_not, eqb→eq, lit<, nltb→le, length-set, ltb-false, ltb-true}
pub use Rattle.std.proofs.Math.Dec.{eqb_refl}
pub use Rattle.std.proofs.lemmas.List.{length-map}
-- the code and its values
pub use mir.Syntax.{Ty, erased, imm, loop, mut, named, ty_array, ty_bool, ty_int, ty_ptr, ty_ref, ty_unit, w32, w64, w8}
pub use mir.Val.{Val, WT, has_ty, vbool, vcons, vint, vnil, vptr, vstruct, vunit}
-- the logic
pub use seplogic.Ra.Ura.{Ura}
pub use base.Fraction.{full_share}
pub use base.Logic.{SProp, emp, ent, ex_e, fst∗, id⊢, sep, snd∗, via}
pub use base.Fml.{Fml, GName, Lft, Share, fat, fauth, fbor, fdies, flent, flft, fobor, fobs, fres, froom, fshr_bor, ftrue, fsep, fdead}
pub use ghost.Atoms.{Atoms}
pub use types.Logic.{Logic, sem}
pub use prog.Memory.{Memory}
pub use prog.Model.{Model}
pub use prog.Routine.{Routine}
pub use prog.Wp.{Calls, Env, Heap, Loops, Out, Tables, Wp, WpFn, after_block, after_seq, at_return}
pub use sound.WpLaws.{FmC, WpFn-mono, fm_of}
pub use contract.Monad.{Fun, fact}
pub use contract.Running.{tables, Running}
-- steps
pub use types.Kit.{ !, Item, Sq, ◌$◌, ◌∵◌, ◌⊛◌, any_q, at_ret, await, by, done, drop, feq_i, feq_l, fjoin, fjoin3, frame, frees, fsplit, fsplit3, given, join, keep, later, learn, move, pick, prop, qed, raw, rewrite, runs, some, split, suffices, use0, use1, use2, use3, ‵, ⋆, Goal}
pub use types.Run.{Below, addr, again, alloc0, alloc1, and_then, assigns, assigns_last, bin, blocks, branches, enter, exec, first, fld, forget, free0, free1, from, hop, init, jumps, land, lit, load, look, look_raw, loops, neg_lit, no_more, of_opd, params1, pass0, pass1, returns, returns_within, skips, stop, store, store_raw, true_lit, false_lit, unit_lit}
pub use types.Part.{agg, look_in, store_in, sub, whole}
pub use types.SemTy.{Body}
pub use types.Share.{arr_parts}
pub use types.Tokens.{lft_end, lft_new}
-- types and contracts
pub use denote.Array.{Array, Array-Makes, Array-Tells, Array-Typed, array_vals, array_val, each}
pub use Rattle.std.specs.Borrow.{u32, u64, u8, unit, usize}
pub use denote.Exit.{yes}
pub use denote.Index.{closes_slice, elem_back, elem_out, elem_put, looks_slice, opens_slice, place_is, row, shuts_slice}
pub use denote.Laws.{Is, shows}
pub use denote.Memory.{cell_at, mem, pointee, shares}
pub use denote.Plain.{Boolean, bool_Lawful, Nothing-Lawful, uint_Lawful, uint_Makes, uint_Tells, uint_vals, UInt, bool_vals, bool_Tells, bool_Makes}
pub use denote.RattleType.{RattleType, owns}
pub use denote.Ref.{MutRef, Bor, MutBor, mut_Tells, shr_vals, mut_vals}
pub use denote.Shadow.{pure_i, shadow}
pub use denote.Signature.{plain}
pub use denote.Slice.{MutSlice, Room, ShrSlice, shr_slice_at, mut_slice_at, coded_holeys, heres, mut_slice_Tells, shr_slice_Tells, shr_slice_copy, shr_slice_vals, mut_slice_vals, slice_ty, slice_val}
pub use denote.Steps.{closes, heard, nothing, only, opens, owned, peeks}
pub use denote.Struct.Field.{Field}
pub use denote.Struct.Steps.{spelt}
pub use denote.Triple.Call.{calls_at}
pub use denote.Triple.Clauses.{ensured, lasts, Ended, Clauses, closing}
pub use denote.Triple.Entry.{on_entry}
pub use denote.Triple.Spec.{Meets, triple_of}
pub use denote.Triple.Statement.{Contract, Triple}
pub use denote.Triple.Table.{cited, entered}
pub use denote.Triple.Walked.{needs, says}
-- these a walk unfolds
unfoldable pub use contract.Running.{tables_of}
unfoldable pub use prog.Wp.{after_turn}
-- this crate's
pub use Rattle.walks.specs.Tests.{holds, fails, holds_not, not_equal, not_at}
pub use Rattle.walks.specs.Turn.{after, Nearer, nearer-wf}
pub use Rattle.walks.specs.Locals.{empty, full, Local, stack, places, leave, number}
pub use Rattle.walks.specs.Calls.{answers, gives, covered}
pub use Rattle.walks.specs.Slices.{opens-own, closes-own, looks-own, shuts-own}
pub use Rattle.walks.specs.Lends.{on-shared, on-again, on-ref, off-shared, off-again, off-ref, token, learns}
