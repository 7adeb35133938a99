mod Decoded
