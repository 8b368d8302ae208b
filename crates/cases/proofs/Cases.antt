-- Every row of the table (specs/Cases.antt) holds: each is tested by working the definitions out. Assumes nothing.
use Rattle.std.specs.Prelude.{◌≡◌, refl, Bool, true, List}
use Rattle.std.specs.Int.Count.{ones}
use Rattle.sets.specs.Any.{all}
use Rattle.sets.specs.Set.{has, union, meet, minus, only, when, puts, strikes, empties, set_of, sift, size}
use Rattle.lists.specs.Edit.{edit}
use Rattle.endian.specs.Le.{le, put_le}
use Rattle.flooding.specs.Machine.{run, row, todo, round, drain}
use Rattle.network.specs.State.{blank_net}
use Rattle.network.specs.Rows.{blank_table}
use Rattle.events.specs.Event.{reading_of, read_of, reading_at, read_at, decode_of, fields_at, or_seven, skip_ok, pair_ok, topics_ok, leave_ok, join_ok, no_more, no_sets, no_message}
use Rattle.events.specs.Writing.{put_fields, put_head}
use Rattle.floodnet.specs.Produce.{holders, is_new, produced}
use Rattle.floodnet.specs.Forward.{moved, receivers, given, forwarded}
use Rattle.floodnet.specs.Links.{link_up, link_down, cleared, placed, left, joined}
use Rattle.network.specs.Rules.{need}
use Rattle.floodnet.specs.Refusals.{refusal_produce, refusal_forward, refusal_leave, refusal_join}
use Rattle.events.specs.Kind.{kind_of}
use Rattle.floodnet.specs.Step.{refusal, effect, if_accepted, after, receivers_of, turned, turned_of}
use Rattle.floodnet.specs.View.{view, fwd}
use Rattle.broadcastnet.specs.Commit.{together, underway, without, image}
use Rattle.drain.specs.Drain.{drain_of, quiet_of}
use Rattle.engine.specs.Run.{tallied_of, turn_of, run_from, run_all}
use Rattle.cases.specs.Rows.{join, produce, forward, leave, h_then, bytes, Row, Each}
use Rattle.cases.specs.Worked.{ended, small, proper, same, alike, answer_is, images_are, drained_is, works, every}
use Rattle.cases.specs.laws.Worked.{each_holds, each_both}
use Rattle.cases.specs.Cases.{a7_then, start, refused, leaving, joining, draining, again, table}

-- The test of a list of rows (specs/Worked.antt), with all that it takes to work it out.
tested : List Row → Bool
unfolding answer_is images_are drained_is join produce forward leave h_then bytes ended small proper same alike works every a7_then run_all run_from turn_of tallied_of refusal effect if_accepted after kind_of receivers_of turned turned_of need refusal_produce refusal_forward refusal_leave refusal_join link_up link_down cleared placed left joined moved receivers given forwarded holders is_new produced put_fields put_head reading_of read_of reading_at read_at decode_of fields_at or_seven skip_ok pair_ok topics_ok leave_ok join_ok no_more no_sets no_message blank_table blank_net le put_le edit has union meet minus only when puts strikes empties set_of sift size ones all view fwd together underway without image drain_of quiet_of run row todo round drain
tested l = every l

tested_hold : (l : List Row) → tested l ≡ true → Each l
unfolding tested
tested_hold l h = each_holds l h

-- Each part is worked out by itself.
start_works : tested start ≡ true
unfolding tested start
start_works = refl

refused_works : tested refused ≡ true
unfolding tested refused
refused_works = refl

leaving_works : tested leaving ≡ true
unfolding tested leaving
leaving_works = refl

joining_works : tested joining ≡ true
unfolding tested joining
joining_works = refl

draining_works : tested draining ≡ true
unfolding tested draining
draining_works = refl

again_works : tested again ≡ true
unfolding tested again
again_works = refl

-- EVERY CASE HOLDS, from zero bytes, of what the entry points promise.
pub all_hold : Each table
unfolding table
all_hold =
    each_both start _ (tested_hold start start_works)
    (each_both refused _ (tested_hold refused refused_works)
    (each_both leaving _ (tested_hold leaving leaving_works)
    (each_both joining _ (tested_hold joining joining_works)
    (each_both draining again (tested_hold draining draining_works) (tested_hold again again_works)))))
