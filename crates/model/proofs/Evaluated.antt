-- Every definition of document 01, and those of a move, opened at once: where a proof says `unfolding evaluated`, the definitions compute.
-- Assumes nothing.
use lib.Count.{ones, ones_in}
use Rattle.model.specs.Lists.{same, all_ff, numbers_at}
use Rattle.model.specs.Layout.{signature, plain_signature}
use Rattle.model.specs.Image.{block, blocks, right_length, region_size, region, work, spare, region_header_in}
use Rattle.model.specs.Name.{zero_ended, well_named, empty_name, record_vendor_def, record_front_def, digits, record_name}
use Rattle.model.specs.Entry.{header_front, entry_bytes_in, extra_bytes, header_fields_in, header_rest_in, read_header_in}
use Rattle.model.specs.Walk.{placed, walk, walk_end_def}
use Rattle.model.specs.Region.{right_live_def, undoubled, added, replacing, standing, is_value, values, find, clean_in, entries_in, right_header_in, sound_in, tail_at_in, tail_in, values_in}
use Rattle.model.specs.Work.{records, used_first_def, spare_last, well_formed, used_records, last_used, ends_in_fc_def, pending, idle, ready_for_start_up, ready_in}
use Rattle.model.specs.Session.{in_boot_def, at_runtime_def, custom_mode, reserved, lock_at, locked, place_bytes, with_lock_def, locked_session, with_phase, moved_to_def, no_locks_def, no_sizes_def, kept, fresh_session}
use Rattle.model.specs.Request.{global_vendor_def, database_vendor_def, key_pk, key_kek, keydb, keydbx, keydbt, is_database_def, is_key_name_def, user_mode_def, key_mode, mode_value, stores_mode, mode_of, key_verdicts_def, other_verdicts_def, wanted_verdicts, certificate, right_descriptor, proper_of, stamp_to_store, later}
use Rattle.model.specs.Sides.{modem_name, owns, view, side_sizes, shares_fit, allotted, locks_of_def}
use Rattle.model.specs.Profile.{number, item_body, item_at, items_at, profile_of, items_in, shares_name_def}
use Rattle.model.specs.Limits.{limit_of, limits_in, little, listed, allowed, meets}
use Rattle.model.specs.Change.{deletes, empty_append_def, equal_to, new_data, later_of_def, new_stamp, new_value, change_of, without, step, leaves, steps, change_in, beside_pk, changes_of, mode_changes, changes_in, entry_sizes_in, space_in, record_sizes, other_sizes}
use Rattle.model.specs.Rules.{first_broken, rule1, rule2_start_up, rule3, rule3_next, rule4, rule5, rule6, unlike_stored, rule7, rule8, rule9, rule10, rule11, rule11_read, rule12, rule13, rule17, rule18, rule21, rule15, rule16, rule22, rule22_next, values_found, rule22_start_up, rule24, rule24_set, rule6_mode, rule25, rule26, terms_for_def, terms_of, request_rules, standing_rules, result_rules, item_rules, setting_rules, room_rules, set_broken, items_rules, profile_rules, profile_broken, mode_rules, mode_broken, seen, value_to_get, following, next_of, value_to_name, rule14, get_broken, gets_broken, next_broken, start_up_broken, lock_broken, format_broken, image_rules_in, rule2_in}
use Rattle.model.specs.Stores.{blank, apply, apply_all, left_by_def, left_by_one, after, fails, reach, width_of, pages, bytewise, stores, stores_one_def, todays, todays_one, erases, difference}
use Rattle.model.specs.Compact.{next_record_def, fill_spare, finish, compact_to, compact_on, encode_in, joined_in}
use Rattle.model.specs.Set.{leftover, entry_stores, tail_to, tail_on, delete_to, fits_tail, put_plan, change_plan, folded_plan}
use Rattle.model.specs.StartUp.{resume, tidy_spare, tidy_work, tidy_tail, start_up_stores, start_up_plan, format_stores, format_plan}
use Rattle.model.specs.Answers.{stores_of, made_of, outcome, image_after, decided, refusal, written, get_reply, get_each_def, gets_reply, next_reply, lock_outcome, lock_session}
use Rattle.model.specs.Move.{moved_values, rule19, rule20, rule13_move, move_broken, moved, image_moved, move_answer}
use Rattle.model.specs.Book.{plan_of, entered, book_after, is_record, is_state_def, in_place_def}

unfoldable pub evaluated : Unit {0}
unfolding same all_ff numbers_at block blocks right_length region_size region work spare signature plain_signature region_header_in zero_ended well_named record_vendor_def record_front_def digits record_name empty_name header_fields_in read_header_in header_front header_rest_in extra_bytes entry_bytes_in placed walk walk_end_def entries_in tail_at_in tail_in right_header_in right_live_def undoubled sound_in clean_in added replacing standing is_value values values_in find records used_first_def spare_last well_formed used_records last_used ends_in_fc_def pending idle ready_in ready_for_start_up in_boot_def at_runtime_def custom_mode reserved lock_at locked place_bytes with_lock_def locked_session with_phase moved_to_def no_locks_def no_sizes_def kept fresh_session global_vendor_def database_vendor_def key_pk key_kek keydb keydbx keydbt is_database_def is_key_name_def user_mode_def key_mode mode_value stores_mode mode_of key_verdicts_def other_verdicts_def wanted_verdicts certificate right_descriptor proper_of stamp_to_store later deletes empty_append_def equal_to new_data later_of_def new_stamp new_value number item_body item_at items_at profile_of items_in shares_name_def limit_of limits_in little listed allowed meets change_of without step leaves steps change_in beside_pk changes_of mode_changes changes_in entry_sizes_in space_in record_sizes other_sizes first_broken rule1 rule2_in rule2_start_up rule3 rule3_next rule4 rule5 rule6 unlike_stored rule7 rule8 rule9 rule10 rule11 rule11_read rule12 rule13 rule17 rule18 rule21 rule15 rule16 rule22 rule22_next values_found rule22_start_up rule24 rule24_set rule6_mode rule25 rule26 modem_name owns view side_sizes shares_fit allotted locks_of_def image_rules_in terms_for_def terms_of request_rules standing_rules result_rules item_rules setting_rules room_rules set_broken items_rules profile_rules profile_broken mode_rules mode_broken seen value_to_get following next_of value_to_name rule14 get_broken gets_broken next_broken start_up_broken lock_broken format_broken blank apply apply_all left_by_def left_by_one after width_of pages bytewise stores stores_one_def todays todays_one fails reach erases difference joined_in encode_in next_record_def fill_spare finish compact_to compact_on leftover entry_stores tail_to tail_on delete_to fits_tail put_plan change_plan folded_plan resume tidy_spare tidy_work tidy_tail start_up_stores start_up_plan format_stores format_plan stores_of made_of outcome image_after decided refusal written get_reply get_each_def gets_reply next_reply lock_outcome lock_session moved_values rule19 rule20 rule13_move move_broken moved image_moved move_answer plan_of entered book_after is_record is_state_def in_place_def ones ones_in
evaluated = tt
