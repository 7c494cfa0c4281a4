mod Ending
