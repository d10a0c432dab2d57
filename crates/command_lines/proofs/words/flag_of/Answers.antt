use Rattle.command_lines.proofs.LineWords.{no_name}
use Rattle.command_lines.proofs.words.flag_of.Goals as goal

pub returns-in-None-converter_flag_of : goal.returns-in-None-converter_flag_of
returns-in-None-converter_flag_of c =
    no_name c.args.word.now c.in-None.ensures c.in-None-file_flag_of.ensures.0 c.in-None-file_flag_of.ensures.1 c.in-None-file_flag_of.ensures.2
    c.in-None-service_flag_of.ensures.0 c.in-None-service_flag_of.ensures.1 c.in-None-service_flag_of.ensures.2
    c.in-None-converter_flag_of.ensures.0 c.in-None-converter_flag_of.ensures.1
