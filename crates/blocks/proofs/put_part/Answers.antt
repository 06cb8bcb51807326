-- `blocks::put_part` meets its contract. Assumes nothing.
use Rattle.blocks.proofs.Parts.{asked_as, made_as}
use Rattle.blocks.proofs.put_part.Goals as goal

pub put_clock_test-requires : goal.put_clock_test-requires
put_clock_test-requires c =
    let args = c.args in
    let pre = c.requires in
    asked_as args.bytes.now args.out.now args.at c.in-ClockGuards.is (pre)

pub put_data_test-requires : goal.put_data_test-requires
put_data_test-requires c =
    let args = c.args in
    let pre = c.requires in
    asked_as args.bytes.now args.out.now args.at c.in-DataGuards.is (pre)

pub put_update-requires : goal.put_update-requires
put_update-requires c =
    let args = c.args in
    let pre = c.requires in
    asked_as args.bytes.now args.out.now args.at c.in-Updates.is (pre)

pub put_pair-requires : goal.put_pair-requires
put_pair-requires c =
    let args = c.args in
    let pre = c.requires in
    asked_as args.bytes.now args.out.now args.at c.in-Pairs.is (pre)

pub returns-in-ClockGuards : goal.returns-in-ClockGuards
returns-in-ClockGuards c =
    let args = c.args in
    made_as args.bytes.now c.in-ClockGuards.is c.put_clock_test.ensures

pub returns-in-DataGuards : goal.returns-in-DataGuards
returns-in-DataGuards c =
    let args = c.args in
    made_as args.bytes.now c.in-DataGuards.is c.put_data_test.ensures

pub returns-in-Updates : goal.returns-in-Updates
returns-in-Updates c =
    let args = c.args in
    made_as args.bytes.now c.in-Updates.is c.put_update.ensures

pub returns-in-Pairs : goal.returns-in-Pairs
returns-in-Pairs c =
    let args = c.args in
    made_as args.bytes.now c.in-Pairs.is c.put_pair.ensures
