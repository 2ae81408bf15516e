use Rattle.dl_field.proofs.WholeBlocks.{block_front}
use Rattle.dl_field.proofs.WholeValues.{front_entered}
use Rattle.dl_field.proofs.table_reader.TableReader.value_front.Goals as goal

pub returns-in-Some : goal.returns-in-Some
returns-in-Some c =
    block_front c.args.order c.args.self.now c.whole_block.new.self c.in-Value.at c.in-Value.value c.in-Some.size
    c.args.format c.args.bytes.now c.in-Some.tail.now c.whole_block.result c.in-Value.is c.in-Some.ensures
    c.whole_block.ensures

pub returns : goal.returns
returns c =
    front_entered c.args.order c.args.self.now c.enter_front.new.self c.in-Value.at c.in-Value.value c.in_ok-held.held
    c.args.format c.args.bytes.now c.in_ok-held.tail.now c.enter_front.result c.in-Value.is c.in_ok-held.ensures
    c.enter_front.ensures
